-- What a page of notes after the flow places.
use Rattle.std.proofs.Common.{◌≡◌, ◌<◌, ◌≤◌, ◌+◌, ℕ, zero, suc, ℤ, All, List, [], ◌∷◌, ◌++◌, None, Some, length, length-append, map, max, append-nil, sym, ap, ◌∙◌, subst, arith, false, ◌≤ℤ◌}
use Rattle.std.proofs.lemmas.Bool.Decides.{nat_tests}
use Rattle.std.proofs.lemmas.Int.{ints}
use Rattle.std.proofs.lemmas.List.{length-map}
use Rattle.std.proofs.lemmas.Option.{same_Some}
use Rattle.metrics.specs.Face.{FontFace}
use Rattle.boxes.specs.declared.flow.Flow.{Flow}
use Rattle.boxes.specs.declared.flow.Note.{Note}
use Rattle.boxes.specs.declared.frames.Frame.{Frame}
use Rattle.seams.specs.Runs.{solid_after}
use Rattle.cursor.specs.Remainder.{SolidView, IsRemainder}
use Rattle.boxes.specs.Tree.{Tree}
use Rattle.boxes.specs.declared.place.Position.{Position}
use Rattle.notes.specs.Notes.{IsCarryCount, IsPlaced, area_of, must_of}
use Rattle.note_list.specs.Conditions.{AreCarried, NotesAscend, IsAtSolid, IsHeld}
use Rattle.note_list.specs.Lists.{AreNoted, NotePart, called_parts, carried_parts, noted, note_rows}
use Rattle.note_list.specs.Places.{IsPlacing, least_of}
use Rattle.note_list.specs.Reads.{IsCarriedList, IsReadFor, IsReadOf}
use Rattle.note_list.specs.declared.carried.Carried.{Carried}
use Rattle.note_list.specs.declared.list.NoteList.{NoteList}
use Rattle.note_list.specs.declared.list.PlacedList.{PlacedList}
use Rattle.note_list.specs.declared.solid.NotedSolid.{NotedSolid}
use Rattle.note_list.proofs.NotedLemmas.{called_none}
use Rattle.note_list.proofs.ReadLemmas.{read_for}
use Rattle.page_list.specs.Cuts.{IsNotesCut, place_after}
use Rattle.fragment.proofs.PlaceLemmas.{before_end}

rest_some : (faces : List FontFace) (t : Tree) (width : ℤ) (at : Position) (k : ℕ) (solids : List SolidView) → solid_after t at.event ≡ Some k → IsRemainder faces t width at solids → 0 < length solids
rest_some faces t width at k [] found r = absurd (let h : None ≡ Some k = sym r ∙ found in cc)
rest_some faces t width at k (s ∷ solids) found r = omega arith

-- something stands in the list of notes that go on at solids
noted_some : (faces : List FontFace) (notes : List Note) (width : ℤ) (carried : List Carried) (list : List NotedSolid) → 0 < length carried → All (IsAtSolid notes) carried → AreNoted faces notes width (carried_parts carried) list → 0 < length list
noted_some faces notes width [] list some at n = absurd (omega arith)
noted_some faces notes width (c ∷ carried) list some at n =
    let own : IsAtSolid notes c = at 0 c (omega arith) in
    let note : own.note ≡ n.0 = same_Some _ _ (sym own.has ∙ n.1) in
    let found : solid_after n.0.body c.at.event ≡ Some c.at.event = subst (λ (x : Note). solid_after x.body c.at.event ≡ Some c.at.event) note own.solid in
    let low = rest_some faces n.0.body width c.at c.at.event n.2 found n.3 in
    let size : length list ≡ length n.2 + length n.4 = ap (λ (xs : List NotedSolid). length xs) n.6 ∙ length-append (map (noted n.0.body (record { note = c.note; at = c.at; called = false })) n.2) n.4 ∙ ap (λ (k : ℕ). k + length n.4) (length-map n.2 (noted n.0.body (record { note = c.note; at = c.at; called = false }))) in
    omega arith

least_one : (n must c : ℕ) → 0 < n → least_of 4 must c n ≡ 1
least_one zero must c some = absurd (omega arith)
least_one (suc n) must c some = grind (arith, nat_tests)

module _ (faces : List FontFace) (flow : Flow) (frame : Frame) (carried : List Carried) (l : NoteList) (all : ℕ) where
  pub notes_cut : IsCarriedList faces flow.notes frame carried l → 0 < length carried → All (IsAtSolid flow.notes) carried → (height : ℤ) → height ≡ frame.height → (p : PlacedList) →
      ((faces : List FontFace) (width : ℤ) (own list later : List NotedSolid) → AreNoted faces flow.notes width (carried_parts carried) own → AreNoted faces flow.notes width (carried_parts carried ++ called_parts all all) list → All (λ (s : NotedSolid). all ≤ s.note) later → IsReadFor height (list ++ later) l →
      IsCarryCount (note_rows own) (length own) height l.own → (4 ≤ 2 → area_of (note_rows list) (must_of (note_rows list) l.own) ≤ℤ height) → IsPlacing list 4 l.own (length own) height p) →
      IsNotesCut faces flow frame carried p.notes p.left
  notes_cut c some at height same p placed =
      let parts : carried_parts carried ≡ carried_parts carried ++ called_parts all all = sym (ap (λ (ps : List NotePart). carried_parts carried ++ ps) (called_none all all (omega arith)) ∙ append-nil (carried_parts carried)) in
      let pl : IsPlacing c.list 4 l.own (length c.list) height p = placed faces frame.width c.list c.list [] c.listed (subst (λ (ps : List NotePart). AreNoted faces flow.notes frame.width ps c.list) parts c.listed) (λ k d h. absurd (omega arith))
      (subst (λ (z : ℤ). IsReadFor z (c.list ++ []) l) (sym same) (read_for frame.height frame.height (c.list ++ []) l (omega (arith, ints)) (subst (λ (xs : List NotedSolid). IsReadOf frame.height xs l) (sym (append-nil c.list)) c.read))) (subst (λ (z : ℤ). IsCarryCount (note_rows c.list) (length c.list) z l.own) (sym same) c.counts) (λ h. absurd (omega arith)) in
      let one : least_of 4 (must_of (note_rows c.list) l.own) l.own (length c.list) ≡ 1 = least_one (length c.list) (must_of (note_rows c.list) l.own) l.own (noted_some faces flow.notes frame.width carried c.list some at c.listed) in
      record {
        list = c.list;
        listed = c.listed;
        number = pl.number;
        places = subst (λ (z : ℤ). IsPlaced (note_rows c.list) 1 z pl.number) same (subst (λ (k : ℕ). IsPlaced (note_rows c.list) k height pl.number) one pl.places);
        notes_is = pl.notes_is;
        left_is = pl.left_is;
      }

-- what is carried after the flow's end
pub carried_on : (flow : Flow) (left : List Carried) (all : ℕ) → all ≡ length flow.notes → All (IsHeld flow.notes) left → NotesAscend left → All (λ (c : Carried). c.note < max all all) left → AreCarried flow (place_after flow.main None) left
carried_on flow left all is held order below = record {
  held = held;
  called = λ k d h. let low = below k d h in let e = before_end flow.main flow.notes in omega arith;
  order = order;
}

pub carried_low : (flow : Flow) (carried : List Carried) (all : ℕ) → all ≡ length flow.notes → AreCarried flow (place_after flow.main None) carried → All (λ (c : Carried). c.note < all) carried
carried_low flow carried all is are k d h = let low = are.called k d h in let e = before_end flow.main flow.notes in omega arith
