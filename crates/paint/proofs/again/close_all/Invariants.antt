use Rattle.paint.proofs.ClosingLemmas.{IsClosing, places_left}
use Rattle.paint.proofs.again.close_all.Given as goal

abbrev pub invariant-loop-next : goal.invariant-loop-next
invariant-loop-next l = IsClosing l.tree l.origin.width l.solids l.fn.parts.items l.parts.items l.next l.bottom

abbrev pub decreases-loop-next : goal.decreases-loop-next
decreases-loop-next l = places_left l.next
