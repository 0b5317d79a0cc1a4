use Rattle.std.proofs.Common.{◌-◌, ◌≤◌, [], length}
use Rattle.counters.specs.Gather.{AreSpots}
use Rattle.counters.proofs.spots.empty_spots.Given as goal

abbrev pub invariant-loop-spots : goal.invariant-loop-spots
invariant-loop-spots l = AreSpots [] l.spots.items × (length l.spots.items ≤ l.count)

abbrev pub decreases-loop-spots : goal.decreases-loop-spots
decreases-loop-spots l = l.count - length l.spots.items
