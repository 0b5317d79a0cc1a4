use Rattle.std.proofs.Common.{◌≡◌, ◌<◌, ℕ, Some, slice_get}
use Rattle.boxes.specs.declared.flow.Note.{Note}
use Rattle.page_list.specs.Bounds.{HaveTexts}
use Rattle.fragment.proofs.paginate.have_note_texts.Given as goal

abbrev pub invariant-loop-at : goal.invariant-loop-at
invariant-loop-at l = (k : ℕ) (n : Note) → k < l.at → slice_get l.notes k ≡ Some n → HaveTexts n.body
