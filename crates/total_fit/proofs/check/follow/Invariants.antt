use Rattle.std.proofs.Common.{◌≤◌, ◌↔◌, length, drop}
use Rattle.total_fit.specs.Certificates.{Follows}
use Rattle.total_fit.proofs.check.follow.Given as goal

abbrev pub invariant-loop-end : goal.invariant-loop-end
invariant-loop-end l = record {
  within : l.at ≤ length l.stops;
  goes_on : Follows l.stops l.measures l.potentials 0 l.ends ↔ Follows l.stops l.measures l.potentials l.at (drop l.end-index l.ends);
}
