use Rattle.std.proofs.Common.{◌∙◌, ap, map, subst, arith}
use Rattle.match_table.specs.Index.{IsNoted}
use Rattle.match_table.proofs.IndexLemmas.{are-noted-more}
use Rattle.match_table.proofs.index.nodes_by_word.Goals as goal

pub loop-node-init : goal.loop-node-init
loop-node-init c = record {
  count = c.in_ok-lists.ensures.count ∙ c.len.ensures;
  noted = λ n lt. absurd (omega (arith, lt));
}

pub loop-node-preserved : goal.loop-node-preserved
loop-node-preserved c = record {
  count = c.in_ok-note.ensures.count ∙ c.loop-node.invariant.count;
  noted = are-noted-more c.args.dom.now c.args.words.now c.loop-node.lists.items c.note.new.lists.items c.loop-node.node c.loop-node.invariant.noted c.in_ok-note.ensures.keeps
      (subst (λ z. IsNoted c.args.words.now c.note.new.lists.items z c.loop-node.node) (ap (map (λ w. w.now)) c.deref.ensures.value ∙ c.in_ok-found.ensures) c.in_ok-note.ensures.noted);
}

pub returns : goal.returns
returns c =
    let len = c.len-node-end.ensures.len in
    let test = c.loop-node-test.false in
    record {
      count = c.loop-node.invariant.count;
      noted = λ n lt. c.loop-node.invariant.noted n (omega (arith, lt, len, test));
    }
