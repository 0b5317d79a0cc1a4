use Rattle.std.proofs.Common.{◌≡◌, ◌<◌, ◌++◌, List, All, length}
use Rattle.note_list.specs.declared.carried.Carried.{Carried}
use Rattle.note_list.proofs.carried.CarriedNotes.drop_below.Given as goal

abbrev pub invariant-loop-part : goal.invariant-loop-part
invariant-loop-part l = (below : List Carried) × (l.fn.self ≡ below ++ l.self) × All (λ c. c.note < l.next) below

abbrev pub decreases-loop-part : goal.decreases-loop-part
decreases-loop-part l = length l.self
