use Rattle.paint.specs.Opens.{AreOpen}
use Rattle.paint.proofs.walk.pass_to.Given as goal

abbrev pub invariant-loop-event : goal.invariant-loop-event
invariant-loop-event l = AreOpen l.tree l.origin l.event l.opens.items
