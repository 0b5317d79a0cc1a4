use Rattle.std.proofs.Common.{take}
use Rattle.std.specs.List.{All}
use Rattle.notes.specs.Near.{IsNearSolid}
use Rattle.paint.proofs.bounds.are_notes_near.Given as goal

abbrev pub invariant-loop-number : goal.invariant-loop-number
invariant-loop-number l = All (λ note. IsNearSolid note.1) (take l._number-index l.notes)
