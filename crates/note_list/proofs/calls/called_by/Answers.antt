use Rattle.std.proofs.Common.{◌≡◌, Bool, true, false, List, Some, length, get_or, slice_get, refl, sym, ap, ◌∙◌}
use Rattle.std.specs.List.{prefix_len}
use Rattle.std.proofs.lemmas.Option.{get_or_from_slice_get, slice_get_read}
use Rattle.boxes.specs.declared.flow.Note.{Note}
use Rattle.page_seq.specs.Places.{anchor_of, is_before}
use Rattle.note_list.proofs.CallLemmas.{prefix_end, prefix_step, prefix_stop}
use Rattle.note_list.proofs.calls.called_by.Goals as goal

pub returns-then-not-is_called : goal.returns-then-not-is_called
returns-then-not-is_called c =
    let notes : List Note = c.as_slice-notes.result.now in
    let s : Note = c.index-notes-at.result in
    let p : Note → Bool = λ n. is_before (anchor_of c.args.flow.now.main n.call) c.args.end in
    let there : slice_get notes c.loop-at.at ≡ Some s = slice_get_read notes (length notes) c.loop-at.at s refl c.loop-at-test.true c.index-notes-at.is in
    let fails : p (get_or notes c.loop-at.at s) ≡ false = ap p (get_or_from_slice_get notes c.loop-at.at s s there) ∙ sym c.is_called.ensures ∙ c.if-not-is_called.true in
    prefix_stop p notes c.loop-at.at s c.loop-at.invariant fails ∙ ap (λ (xs : List Note). prefix_len p xs) c.as_slice-notes.ensures

pub loop-at-preserved : goal.loop-at-preserved
loop-at-preserved c =
    let notes : List Note = c.as_slice-notes.result.now in
    let s : Note = c.index-notes-at.result in
    let p : Note → Bool = λ n. is_before (anchor_of c.args.flow.now.main n.call) c.args.end in
    let there : slice_get notes c.loop-at.at ≡ Some s = slice_get_read notes (length notes) c.loop-at.at s refl c.loop-at-test.true c.index-notes-at.is in
    let passes : p (get_or notes c.loop-at.at s) ≡ true = ap p (get_or_from_slice_get notes c.loop-at.at s s there) ∙ sym c.is_called.ensures ∙ c.if-not-is_called.false in
    prefix_step p notes c.loop-at.at s c.loop-at.invariant c.loop-at-test.true passes

pub returns : goal.returns
returns c =
    let notes : List Note = c.as_slice-notes.result.now in
    let p : Note → Bool = λ n. is_before (anchor_of c.args.flow.now.main n.call) c.args.end in
    prefix_end p notes c.loop-at.at c.loop-at.invariant c.loop-at-test.false ∙ ap (λ (xs : List Note). prefix_len p xs) c.as_slice-notes.ensures
