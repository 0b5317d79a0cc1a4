use Rattle.std.proofs.Common.{◌≡◌, ◌≤◌, ◌++◌}
use Rattle.std.specs.List.{flat_map}
use Rattle.note_list.specs.Left.{left_from, whole_notes}
use Rattle.note_list.proofs.left.push_called.Given as goal

abbrev pub invariant-loop-note : goal.invariant-loop-note
invariant-loop-note l = record {
  low : l.fn.from ≤ l.note;
  high : l.note ≤ l.fn.to;
  left : l.left ≡ l.fn.left ++ flat_map (left_from l.flow.notes l.next) (whole_notes l.fn.from l.note);
}
