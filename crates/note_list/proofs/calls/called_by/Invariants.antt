use Rattle.std.proofs.Common.{◌≤◌}
use Rattle.std.specs.List.{prefix_len}
use Rattle.page_seq.specs.Places.{anchor_of, is_before}
use Rattle.note_list.proofs.calls.called_by.Given as goal

abbrev pub invariant-loop-at : goal.invariant-loop-at
invariant-loop-at l = l.at ≤ prefix_len (λ n. is_before (anchor_of l.flow.main n.call) l.end) l.notes
