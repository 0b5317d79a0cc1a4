use Rattle.std.proofs.Common.{ℕ, refl, arith, below_more}
use Rattle.total_fit.specs.Certificates.{HoldsAtLine}
use Rattle.total_fit.proofs.check.hold_up_to.Goals as goal

pub returns-then-not-holds_at_line : goal.returns-then-not-holds_at_line
returns-then-not-holds_at_line c =
    (λ t. absurd cc, λ h. c.if-not-holds_at_line.ensures.1 (h c.loop-from.from c.loop-from-test.true))

pub loop-from-preserved : goal.loop-from-preserved
loop-from-preserved c = below_more (λ (i : ℕ). HoldsAtLine c.args.stops.now c.args.measures c.args.potentials.now i c.args.to)
    c.loop-from.from c.loop-from.invariant (c.if-not-holds_at_line.ensures.0 refl)

pub returns : goal.returns
returns c = (λ t i l. c.loop-from.invariant i (omega arith), λ h. refl)
