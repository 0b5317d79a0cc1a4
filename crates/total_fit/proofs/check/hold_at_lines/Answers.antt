use Rattle.std.proofs.Common.{ℕ, refl, arith, inl, inr, sym, subst}
use Rattle.std.proofs.lemmas.Bool.{cases_eq}
use Rattle.total_fit.specs.Certificates.{HoldsAtLine}
use Rattle.total_fit.proofs.check.hold_at_lines.Goals as goal

pub returns-then-not-hold_up_to : goal.returns-then-not-hold_up_to
returns-then-not-hold_up_to c =
    (λ t. absurd cc, λ h. c.if-not-hold_up_to.ensures.1 (λ i l. h i c.loop-to.to l (omega arith)))

pub loop-to-preserved : goal.loop-to-preserved
loop-to-preserved c = λ i j l w. elim (cases_eq j c.loop-to.to) [
  | inl e ↦ subst (λ (z : ℕ). HoldsAtLine c.args.stops.now c.args.measures c.args.potentials.now i z) (sym e)
      (c.if-not-hold_up_to.ensures.0 refl i (omega arith))
  | inr ne ↦ c.loop-to.invariant i j l (omega arith)
]

pub returns : goal.returns
returns c = (λ t i j l w. c.loop-to.invariant i j l (omega arith), λ h. refl)
