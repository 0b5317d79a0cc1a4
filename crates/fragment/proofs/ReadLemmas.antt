-- The notes of a page, as its solids are read.
use Rattle.std.proofs.Common.{◌≡◌, ◌<◌, ◌≤◌, ℕ, zero, suc, ℤ, All, length, List, [], ◌∷◌, ◌++◌, refl, sym, ap, ◌∙◌, subst, arith, append-nil, append_assoc, ⊎_elim}
use Rattle.std.proofs.lemmas.Bool.{cases_lt}
use Rattle.std.proofs.lemmas.List.Elements.{All-nil, All-push}
use Rattle.bk_num.proofs.ListLemmas.{get-append, length-more}
use Rattle.metrics.specs.Face.{FontFace}
use Rattle.boxes.specs.declared.flow.Flow.{Flow}
use Rattle.boxes.specs.declared.frames.Frame.{Frame}
use Rattle.boxes.specs.declared.place.Position.{Position}
use Rattle.boxes.proofs.ListLemmas.{get-end}
use Rattle.cuts.specs.Areas.{IsArea, Tells, area_after, area_or}
use Rattle.notes.specs.Notes.{area_of, must_of}
use Rattle.note_list.specs.Calls.{called_before}
use Rattle.note_list.specs.Lists.{AreNoted, NotePart, called_parts, carried_parts, note_rows}
use Rattle.note_list.specs.Reads.{EndInNotes, IsCarriedList, IsReadOf, IsReady}
use Rattle.note_list.specs.declared.carried.Carried.{Carried}
use Rattle.note_list.specs.declared.solid.NotedSolid.{NotedSolid}
use Rattle.note_list.proofs.NotedLemmas.{called_join, called_none, noted_join, noted_unique}
use Rattle.fragment.specs.Reads.{AreRead, called_by, called_in, called_or, parts_to}
use Rattle.fragment.specs.declared.page_notes.PageNotes.{PageNotes}

-- ---- before any solid
pub read_start : (faces : List FontFace) (flow : Flow) (frame : Frame) (at : Position) (carried : List Carried) (p : PageNotes) → IsReady p.list → EndInNotes flow.notes p.list → IsCarriedList faces flow.notes frame carried p.list →
    p.called ≡ called_before flow.main flow.notes at → p.areas.items ≡ [] → AreRead faces flow frame at carried [] p
read_start faces flow frame at carried p ready held l called none = record {
  ready = ready;
  held = held;
  own = l.list;
  owned = l.listed;
  carries = l.counts;
  low = omega arith;
  called = called;
  list = l.list;
  listed =
      let empty : called_parts (called_before flow.main flow.notes at) p.called ≡ [] = called_none (called_before flow.main flow.notes at) p.called (omega arith) in
      subst (λ (ps : List NotePart). AreNoted faces flow.notes frame.width ps l.list) (sym (ap (λ (ps : List NotePart). carried_parts carried ++ ps) empty ∙ append-nil (carried_parts carried))) l.listed;
  read = l.read;
  count = ap (λ (xs : List ℤ). length xs) none;
  small = subst (All IsArea) (sym none) (All-nil IsArea);
  told = λ j less. absurd (omega arith);
}

-- ---- with one more solid
pub called_last : (flow : Flow) (at : Position) (ends : List Position) (end : Position) → called_in flow at (ends ++ end ∷ []) (suc (length ends)) ≡ called_by flow.main flow.notes end
called_last flow at ends end = ap (called_or flow.main flow.notes (called_before flow.main flow.notes at)) (get-end ends end)

pub called_kept : (flow : Flow) (at : Position) (ends : List Position) (end : Position) (j : ℕ) → j < length ends → called_in flow at (ends ++ end ∷ []) (suc j) ≡ called_in flow at ends (suc j)
called_kept flow at ends end j less = ap (called_or flow.main flow.notes (called_before flow.main flow.notes at)) (get-append ends (end ∷ []) j less)

pub area_kept : (areas : List ℤ) (area : ℤ) (j : ℕ) → j ≤ length areas → area_after (areas ++ area ∷ []) j ≡ area_after areas j
area_kept areas area zero low = refl
area_kept areas area (suc j) low = ap area_or (get-append areas (area ∷ []) j (omega arith))

area_last : (areas : List ℤ) (area : ℤ) → area_after (areas ++ area ∷ []) (suc (length areas)) ≡ area
area_last areas area = ap area_or (get-end areas area)

module _ (faces : List FontFace) (flow : Flow) (frame : Frame) (at : Position) (carried : List Carried) (ends : List Position) (end : Position) (p q : PageNotes) (area : ℤ) (r : AreRead faces flow frame at carried ends p)
    (low : p.called ≤ called_by flow.main flow.notes end) (called : q.called ≡ called_by flow.main flow.notes end) (own : q.list.own ≡ p.list.own)
    (calls : (list : List NotedSolid) → IsReadOf frame.height list p.list → (more : List NotedSolid) × AreNoted faces flow.notes frame.width (called_parts p.called q.called) more × IsReadOf frame.height (list ++ more) q.list)
    (pushed : q.areas.items ≡ p.areas.items ++ area ∷ []) (small : IsArea area)
    (tells : (list : List NotedSolid) → IsReadOf frame.height list q.list → Tells frame.height area (area_of (note_rows list) (must_of (note_rows list) q.list.own))) where
  more_is : (more : List NotedSolid) × AreNoted faces flow.notes frame.width (called_parts p.called q.called) more × IsReadOf frame.height (r.list ++ more) q.list
  more_is = calls r.list r.read

  listed_more : AreNoted faces flow.notes frame.width (parts_to flow at carried q.called) (r.list ++ more_is.0)
  listed_more =
      let from : ℕ = called_before flow.main flow.notes at in
      let least : from ≤ p.called = r.low in
      let parts : parts_to flow at carried q.called ≡ parts_to flow at carried p.called ++ called_parts p.called q.called =
      ap (λ (ps : List NotePart). carried_parts carried ++ ps) (called_join from p.called q.called least (omega arith)) ∙ sym (append_assoc (carried_parts carried) (called_parts from p.called) (called_parts p.called q.called)) in
      subst (λ (ps : List NotePart). AreNoted faces flow.notes frame.width ps (r.list ++ more_is.0)) (sym parts) (noted_join faces flow.notes frame.width (parts_to flow at carried p.called) (called_parts p.called q.called) r.list more_is.0 r.listed more_is.1)

  told_last : (notes : List NotedSolid) → AreNoted faces flow.notes frame.width (parts_to flow at carried (called_in flow at (ends ++ end ∷ []) (suc (length ends)))) notes → Tells frame.height area (area_of (note_rows notes) (must_of (note_rows notes) q.list.own))
  told_last notes n =
      let here : called_in flow at (ends ++ end ∷ []) (suc (length ends)) ≡ q.called = called_last flow at ends end ∙ sym called in
      let same : r.list ++ more_is.0 ≡ notes = noted_unique faces flow.notes frame.width (parts_to flow at carried q.called) (r.list ++ more_is.0) notes listed_more (subst (λ (k : ℕ). AreNoted faces flow.notes frame.width (parts_to flow at carried k) notes) here n) in
      subst (λ (xs : List NotedSolid). Tells frame.height area (area_of (note_rows xs) (must_of (note_rows xs) q.list.own))) same (tells (r.list ++ more_is.0) more_is.2)

  told_more : (j : ℕ) → j < length (ends ++ end ∷ []) → (notes : List NotedSolid) → AreNoted faces flow.notes frame.width (parts_to flow at carried (called_in flow at (ends ++ end ∷ []) (suc j))) notes →
      Tells frame.height (area_after q.areas.items (suc j)) (area_of (note_rows notes) (must_of (note_rows notes) q.list.own))
  told_more j less notes n =
      let size = length-more ends end in
      let count = r.count in
      subst (λ (xs : List ℤ). Tells frame.height (area_after xs (suc j)) (area_of (note_rows notes) (must_of (note_rows notes) q.list.own))) (sym pushed)
      (⊎_elim
      (λ (l : j < length ends).
      let kept : called_in flow at (ends ++ end ∷ []) (suc j) ≡ called_in flow at ends (suc j) = called_kept flow at ends end j l in
      subst (λ (z : ℤ). Tells frame.height z (area_of (note_rows notes) (must_of (note_rows notes) q.list.own))) (sym (area_kept p.areas.items area (suc j) (omega arith)))
      (subst (λ (c : ℕ). Tells frame.height (area_after p.areas.items (suc j)) (area_of (note_rows notes) (must_of (note_rows notes) c))) (sym own)
      (r.told j l notes (subst (λ (k : ℕ). AreNoted faces flow.notes frame.width (parts_to flow at carried k) notes) kept n))))
      (λ (l : length ends ≤ j).
      let last : j ≡ length ends = omega arith in
      let place : suc j ≡ suc (length p.areas.items) = omega arith in
      subst (λ (z : ℤ). Tells frame.height z (area_of (note_rows notes) (must_of (note_rows notes) q.list.own))) (sym (ap (area_after (p.areas.items ++ area ∷ [])) place ∙ area_last p.areas.items area))
      (told_last notes (subst (λ (k : ℕ). AreNoted faces flow.notes frame.width (parts_to flow at carried (called_in flow at (ends ++ end ∷ []) (suc k))) notes) last n)))
      (cases_lt j (length ends)))

  pub read_more : IsReady q.list → EndInNotes flow.notes q.list → AreRead faces flow frame at carried (ends ++ end ∷ []) q
  read_more ready held = record {
    ready = ready;
    held = held;
    own = r.own;
    owned = r.owned;
    carries = rw own r.carries;
    low = let l = r.low in omega arith;
    called = called ∙ sym (called_last flow at ends end) ∙ sym (ap (called_in flow at (ends ++ end ∷ [])) (length-more ends end));
    list = r.list ++ more_is.0;
    listed = listed_more;
    read = more_is.2;
    count = ap (λ (xs : List ℤ). length xs) pushed ∙ length-more p.areas.items area ∙ ap suc r.count ∙ sym (length-more ends end);
    small = subst (All IsArea) (sym pushed) (All-push IsArea p.areas.items area r.small small);
    told = told_more;
  }
