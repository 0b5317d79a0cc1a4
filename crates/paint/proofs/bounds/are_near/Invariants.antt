use Rattle.std.proofs.Common.{take}
use Rattle.std.specs.List.{All}
use Rattle.notes.specs.Near.{IsNearSolid}
use Rattle.paint.proofs.bounds.are_near.Given as goal

abbrev pub invariant-loop-s : goal.invariant-loop-s
invariant-loop-s l = All IsNearSolid (take l.s-index l.solids)
