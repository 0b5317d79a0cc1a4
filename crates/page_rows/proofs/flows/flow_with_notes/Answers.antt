use Rattle.page_rows.proofs.LeafLemmas.{few_bytes, short_faces, short_greedy}
use Rattle.page_rows.proofs.flows.flow_with_notes.Goals as goal

pub returns : goal.returns
returns c = record {
  paged = record {
    main = record {
      is = c.count-count.ensures.tree;
      tree = record {
        whole = c.in_ok-tree.ensures.whole;
        depth = c.in_ok-tree.ensures.depth;
        faced = short_faces c.args.faces.now c.in_ok-tree.tree c.requires.some c.in_ok-tree.ensures.leaves;
      };
      bytes = few_bytes c.in_ok-tree.tree c.count-count.ensures.tree c.in_ok-tree.ensures.bytes;
    };
    notes = rw c.of.ensures c.in_ok-list.ensures.bodies;
    calls = rw c.of.ensures c.in_ok-list.ensures.calls;
    count = rw c.of.ensures c.in_ok-list.ensures.count;
    sliced = rw c.of.ensures c.in_ok-list.ensures.sliced;
  };
  greedy = short_greedy c.in_ok-tree.tree c.in_ok-tree.ensures.leaves;
}
