use Rattle.std.proofs.Common.{◌≡◌, ◌≤◌, length, drop}
use Rattle.seams.specs.Widths.{widths_of}
use Rattle.seams.proofs.widths.Widths.open_all.Given as goal

abbrev pub invariant-loop-at : goal.invariant-loop-at
invariant-loop-at l = record {
  within : l.at ≤ length l.chain;
  widths : l.self ≡ widths_of l.tree l.measure (drop l.at l.chain);
}

abbrev pub decreases-loop-at : goal.decreases-loop-at
decreases-loop-at l = l.at
