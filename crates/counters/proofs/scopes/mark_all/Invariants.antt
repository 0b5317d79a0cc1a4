use Rattle.counters.proofs.ChainLemmas.{MarkedTo}
use Rattle.counters.proofs.scopes.mark_all.Given as goal

abbrev pub invariant-loop-event : goal.invariant-loop-event
invariant-loop-event l = MarkedTo l.events l.event-index l.marks.items
