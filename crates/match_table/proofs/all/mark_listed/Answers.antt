use Rattle.std.proofs.Common.{◌+◌, ◌∙◌, ℕ, [], length, get_or, take, sym, subst, refl, arith}
use Rattle.std.specs.List.{Contains}
use Rattle.selectors.specs.Match.{Matches}
use Rattle.match_table.proofs.RowInvariants.{AreGoing}
use Rattle.match_table.proofs.IndexLemmas.{taken-all}
use Rattle.match_table.proofs.AllLemmas.{going-if, going-none, seen-more, empty-seen, going-done, matched-in}
use Rattle.match_table.proofs.all.mark_listed.Goals as goal

pub loop-node-init : goal.loop-node-init
loop-node-init c = record {
  going = going-none c.args.document.now c.args.selector.now (λ n. Contains {X = ℕ} [] n) c.args.place c.args.rows.now.items empty-seen;
  count = refl;
}

pub loop-node-preserved : goal.loop-node-preserved
loop-node-preserved c = record {
  going = subst (λ z. AreGoing c.args.document.now c.args.selector.now (λ n. Contains (take (c.loop-node.node-index + 1) c.args.nodes.now) n) c.args.place c.args.rows.now.items z) (sym c.in_ok-put_if.ensures.placed)
      (going-if c.args.document.now c.args.selector.now (λ n. Contains (take c.loop-node.node-index c.args.nodes.now) n) (λ n. Contains (take (c.loop-node.node-index + 1) c.args.nodes.now) n)
      c.args.place (get_or c.args.nodes.now c.loop-node.node-index 0) c.args.rows.now.items c.loop-node.rows.items c.is_matched-hit.result
      c.loop-node.invariant.count c.requires.below c.loop-node.invariant.going
      (matched-in (length c.args.rows.now.items) (length c.args.document.now) (get_or c.args.nodes.now c.loop-node.node-index 0) (Matches c.args.document.now c.args.selector.now (get_or c.args.nodes.now c.loop-node.node-index 0)) c.is_matched-hit.result c.requires.count c.is_matched-hit.ensures)
      (λ n seen other. seen-more c.args.nodes.now c.loop-node.node-index n c.loop-node-test.true seen other));
  count = c.in_ok-put_if.ensures.count ∙ c.loop-node.invariant.count;
}

pub returns : goal.returns
returns c = record {
  marked = going-done c.args.document.now c.args.selector.now (λ n. Contains (take c.loop-node.node-index c.args.nodes.now) n) c.args.place c.args.rows.now.items c.loop-node.rows.items c.loop-node.invariant.going
      (λ n lt m. subst (λ z. Contains z n) (sym (taken-all c.loop-node.node-index c.args.nodes.now c.loop-node-test.false)) (c.requires.candidates n (omega (arith, lt, c.requires.count)) m));
  count = c.loop-node.invariant.count;
}
