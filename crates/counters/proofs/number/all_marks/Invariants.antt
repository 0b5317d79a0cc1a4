use Rattle.std.proofs.Common.{take}
use Rattle.counters.specs.Gather.{AreMarksOf}
use Rattle.counters.proofs.number.all_marks.Given as goal

abbrev pub invariant-loop-list : goal.invariant-loop-list
invariant-loop-list l = AreMarksOf (take l.list-index l.lists) l.all.items
