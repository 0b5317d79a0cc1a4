use Rattle.std.proofs.Common.{drop}
use Rattle.paint.specs.Order.{AreNotesInOrder}
use Rattle.paint.proofs.order.are_notes_in_order.Given as goal

abbrev pub invariant-loop-number : goal.invariant-loop-number
invariant-loop-number l = record {
  enough : AreNotesInOrder l.notes l.note l.from (drop l.number-index l.placed) → AreNotesInOrder l.notes 0 0 l.placed;
  needed : AreNotesInOrder l.notes 0 0 l.placed → AreNotesInOrder l.notes l.note l.from (drop l.number-index l.placed);
}
