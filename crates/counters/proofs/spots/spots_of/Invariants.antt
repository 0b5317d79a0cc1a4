use Rattle.std.proofs.Common.{◌≡◌, length}
use Rattle.counters.proofs.SpotLemmas.{Passed}
use Rattle.counters.proofs.spots.spots_of.Given as goal

abbrev pub invariant-loop-step : goal.invariant-loop-step
invariant-loop-step l = Passed l.dom l.walk.steps l.count l.spots.items × (l.walk.nodes ≡ l.dom)

abbrev pub decreases-loop-step : goal.decreases-loop-step
decreases-loop-step l = length l.walk.steps
