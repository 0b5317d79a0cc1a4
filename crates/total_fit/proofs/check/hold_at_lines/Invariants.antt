use Rattle.std.proofs.Common.{ℕ, ◌<◌}
use Rattle.total_fit.specs.Certificates.{HoldsAtLine}
use Rattle.total_fit.proofs.check.hold_at_lines.Given as goal

abbrev pub invariant-loop-to : goal.invariant-loop-to
invariant-loop-to l = (i j : ℕ) → i < j → j < l.to → HoldsAtLine l.stops l.measures l.potentials i j
