use Rattle.std.proofs.Common.{◌<◌, All, take}
use Rattle.note_list.proofs.place.count_below.Given as goal

abbrev pub invariant-loop-at : goal.invariant-loop-at
invariant-loop-at l = All (λ s. s.note < l.to) (take l.at l.solids)
