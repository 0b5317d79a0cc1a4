use Rattle.std.proofs.Common.{◌<◌, length}
use Rattle.selectors.specs.Sets.{has}
use Rattle.selectors.specs.Match.{Matches}
use Rattle.selectors.proofs.Pending.{Pending, by_joins, nothing}
use Rattle.selectors.proofs.matching.matches_in.Given as goal

abbrev pub invariant-path : goal.invariant-path
invariant-path l = record {
  within : l.at.0 < length l.document;
  sound : Pending l.document l.selector (has l.here) (by_joins (has l.child) (has l.inside) nothing (has l.later)) l.at.0 → Matches l.document l.selector l.fn.node.0;
  complete : Matches l.document l.selector l.fn.node.0 → Pending l.document l.selector (has l.here) (by_joins (has l.child) (has l.inside) nothing (has l.later)) l.at.0;
}

abbrev pub decreases-path : goal.decreases-path
decreases-path l = l.at.0
