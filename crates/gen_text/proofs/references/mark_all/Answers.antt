use Rattle.std.proofs.Common.{◌≡◌, ℕ, length, subst, arith}
use Rattle.gen_text.specs.References.{MarkedBelow}
use Rattle.gen_text.proofs.MarkLemmas.{marked_turn}
use Rattle.gen_text.proofs.references.mark_all.Goals as goal

pub loop-index-preserved : goal.loop-index-preserved
loop-index-preserved c = record {
  len = c.mark_node.ensures.len;
  marks = marked_turn c.args.dom.now c.args.styles.now c.loop-index.index c.loop-index.marks c.mark_node.new.marks c.loop-index.invariant.marks c.mark_node.ensures.marks;
}

pub returns-clause-marks : goal.returns-clause-marks
returns-clause-marks c = let e : c.loop-index.index ≡ length c.args.dom.now = grind arith in subst (λ (k : ℕ). MarkedBelow c.args.dom.now c.args.styles.now k c.loop-index.marks) e c.loop-index.invariant.marks
