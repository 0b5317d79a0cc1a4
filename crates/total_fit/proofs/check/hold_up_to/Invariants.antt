use Rattle.std.proofs.Common.{ℕ, ◌<◌}
use Rattle.total_fit.specs.Certificates.{HoldsAtLine}
use Rattle.total_fit.proofs.check.hold_up_to.Given as goal

abbrev pub invariant-loop-from : goal.invariant-loop-from
invariant-loop-from l = (i : ℕ) → i < l.from → HoldsAtLine l.stops l.measures l.potentials i l.to
