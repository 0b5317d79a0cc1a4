use Rattle.std.proofs.Common.{◌-◌, ◌≤◌, length}
use Rattle.total_fit.specs.Choices.{IsChoice}
use Rattle.total_fit.proofs.choice.best_line.Given as goal

abbrev pub invariant-loop-at : goal.invariant-loop-at
invariant-loop-at l = record {
  low : l.from ≤ l.at;
  high : l.at ≤ length l.stops;
  so_far : IsChoice l.stops l.measures l.potentials l.from l.at l.best;
}

abbrev pub decreases-loop-at : goal.decreases-loop-at
decreases-loop-at l = length l.stops - l.at
