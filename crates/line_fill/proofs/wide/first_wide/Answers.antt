use Rattle.std.proofs.Common.{◌≡◌, ◌-◌, arith, sym, refl, ◌∙◌}
use Rattle.line_fill.proofs.CharLemmas.{wide-here, wide-later}
use Rattle.line_fill.proofs.wide.first_wide.Goals as goal

pub returns-then-is_wide : goal.returns-then-is_wide
returns-then-is_wide c = sym (c.loop-at.invariant ∙ wide-here c.args.text.now c.loop-at.at c.args.end (omega arith) (sym c.is_wide.ensures ∙ c.if-is_wide.true))

pub loop-at-preserved : goal.loop-at-preserved
loop-at-preserved c = c.loop-at.invariant ∙ wide-later c.args.text.now c.loop-at.at c.args.end (omega arith) (sym c.is_wide.ensures ∙ c.if-is_wide.false)

pub returns : goal.returns
returns c = let e : c.args.end - c.loop-at.at ≡ 0 = omega arith in sym (c.loop-at.invariant ∙ rw e refl)
