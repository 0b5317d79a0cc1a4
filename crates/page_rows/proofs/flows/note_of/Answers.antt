use Rattle.std.proofs.Common.{refl}
use Rattle.page_rows.proofs.LeafLemmas.{few_bytes, short_faces}
use Rattle.page_rows.proofs.flows.note_of.Goals as goal

pub returns : goal.returns
returns c = record {
  body = record {
    is = c.count-count.ensures.tree;
    tree = record {
      whole = c.in_ok-body.ensures.whole;
      depth = c.in_ok-body.ensures.depth;
      faced = short_faces c.args.faces.now c.in_ok-body.body c.requires.some c.in_ok-body.ensures.leaves;
    };
    bytes = few_bytes c.in_ok-body.body c.count-count.ensures.tree c.in_ok-body.ensures.bytes;
  };
  sliced = c.in_ok-body.ensures.sliced refl;
  call = refl;
}
