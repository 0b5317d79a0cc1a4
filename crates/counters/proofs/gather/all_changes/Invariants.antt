use Rattle.std.proofs.Common.{◌≡◌, ◌+◌, ◌++◌, length}
use Rattle.dom.specs.Nodes.{parents_of}
use Rattle.dom.specs.Walk.{steps_of}
use Rattle.counters.specs.Document.{document_events, events_from}
use Rattle.counters.proofs.gather.all_changes.Given as goal

abbrev pub invariant-loop-step : goal.invariant-loop-step
invariant-loop-step l = (l.log ++ events_from (parents_of l.dom) l.styles (steps_of l.dom) l.index l.walk.steps ≡ document_events l.dom l.styles) × (l.index + length l.walk.steps ≡ l.count) × (l.walk.nodes ≡ l.dom)

abbrev pub decreases-loop-step : goal.decreases-loop-step
decreases-loop-step l = length l.walk.steps
