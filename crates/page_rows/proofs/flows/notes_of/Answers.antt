use Rattle.std.proofs.Common.{◌≡◌, ◌+◌, ◌++◌, ◌∷◌, [], Some, length, length-append, slice_get, subst, ap, arith, ◌∙◌, ℕ, false}
use Rattle.std.proofs.lemmas.Grind.{common_steps}
use Rattle.std.proofs.lemmas.List.Elements.{All-push}
use Rattle.boxes.specs.Clones.{AreSliced}
use Rattle.boxes.specs.declared.flow.Note.{Note}
use Rattle.note_list.specs.Conditions.{CanBeCut}
use Rattle.page_seq.specs.Places.{is_before}
use Rattle.page_rows.proofs.CallLemmas.{never_push}
use Rattle.page_rows.proofs.flows.notes_of.Goals as goal

pub loop-note-preserved : goal.loop-note-preserved
loop-note-preserved c =
    let note : Note = c.in_ok-note.note in
    let now : c.push.new.self.items ≡ c.loop-note.list.items ++ note ∷ [] = grind (arith, common_steps) in
    let size : length c.push.new.self.items ≡ length c.loop-note.list.items + 1 = ap length now ∙ length-append c.loop-note.list.items (note ∷ []) in
    let full = c.if-len.false in
    let many = c.len.ensures in
    let order : (k : ℕ) (a : Note) → k + 1 ≡ length c.loop-note.list.items → slice_get c.loop-note.list.items k ≡ Some a → is_before note.call a.call ≡ false =
    subst (λ xs. (k : ℕ) (a : Note) → k + 1 ≡ length xs → slice_get xs k ≡ Some a → is_before note.call a.call ≡ false) c.deref.ensures.value (c.falls.ensures c.if-falls.false) in
    record {
      bodies = rw now (All-push (λ (n : Note). CanBeCut c.args.faces.now n.body) c.loop-note.list.items note c.loop-note.invariant.bodies c.in_ok-note.ensures.body);
      sliced = rw now (All-push (λ (n : Note). AreSliced n.body.boxes) c.loop-note.list.items note c.loop-note.invariant.sliced c.in_ok-note.ensures.sliced);
      calls = rw now (never_push c.loop-note.list.items note c.loop-note.invariant.calls order);
      count = omega arith;
    }
