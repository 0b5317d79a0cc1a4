use Rattle.std.proofs.Common.{◌≡◌, take}
use Rattle.std.specs.List.{flat_map}
use Rattle.note_list.specs.Left.{left_part}
use Rattle.note_list.proofs.carried.CarriedNotes.settled.Given as goal

abbrev pub invariant-loop-part : goal.invariant-loop-part
invariant-loop-part l = l.left ≡ flat_map (left_part l.flow.notes) (take l.part-index l.parts)
