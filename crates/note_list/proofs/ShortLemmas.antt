-- How much of a list of notes is read, with one solid more.
use Rattle.std.proofs.Common.{◌≡◌, ℕ, ◌+◌, ◌<◌, ◌≤◌, ◌⊎◌, inl, inr, ℤ, pos, ◌≤ℤ◌, List, [], ◌∷◌, ◌++◌, false, length, length-append, refl, sym, ap, ◌∙◌, subst, arith}
use Rattle.std.proofs.lemmas.Bool.{cases_lt}
use Rattle.std.proofs.lemmas.List.{length-map, map-append}
use Rattle.notes.specs.Notes.{area_of}
use Rattle.notes.proofs.NoteLemmas.{area_prefix}
use Rattle.note_list.specs.Lists.{note_rows}
use Rattle.note_list.specs.Short.{IsShortList}
use Rattle.note_list.specs.declared.list.NoteList.{NoteList}
use Rattle.note_list.specs.declared.solid.NotedSolid.{NotedSolid}

-- no solid is read yet
pub short_start : (height : ℤ) (l : NoteList) → l.solids.items ≡ [] → pos 0 ≤ℤ height → IsShortList height l
short_start height l none low = record {
  before = λ k h. let n : length l.solids.items ≡ 0 = ap (λ (xs : List NotedSolid). length xs) none in absurd (omega (arith, n, h));
  all = λ e. subst (λ (xs : List NotedSolid). area_of (note_rows xs) (length xs) ≤ℤ height) (sym none) low;
}

-- the same solids, with as much room
pub short_same : (height : ℤ) (old new : NoteList) → new.solids.items ≡ old.solids.items → new.over ≡ old.over → IsShortList height old → IsShortList height new
short_same height old new items over s = record {
  before = λ k h. subst (λ (xs : List NotedSolid). area_of (note_rows xs) k ≤ℤ height) (sym items) (s.before k (subst (λ (xs : List NotedSolid). k < length xs) items h));
  all = λ e. subst (λ (xs : List NotedSolid). area_of (note_rows xs) (length xs) ≤ℤ height) (sym items) (s.all (sym over ∙ e));
}

-- a solid more, where there was room
pub short_next : (height : ℤ) (old new : NoteList) (s : NotedSolid) → new.solids.items ≡ old.solids.items ++ s ∷ [] → old.over ≡ false → (new.over ≡ false → area_of (note_rows new.solids.items) (length new.solids.items) ≤ℤ height) → IsShortList height old → IsShortList height new
short_next height old new s items room fits short = record { before = λ k h. by k (cases_lt k (length old.solids.items)) h; all = fits }
  where
    rows : note_rows new.solids.items ≡ note_rows old.solids.items ++ s.row ∷ []
    rows = ap (λ (xs : List NotedSolid). note_rows xs) items ∙ map-append (λ (x : NotedSolid). x.row) old.solids.items (s ∷ [])

    count : length (note_rows old.solids.items) ≡ length old.solids.items
    count = length-map old.solids.items (λ x. x.row)

    size : length new.solids.items ≡ length old.solids.items + 1
    size = ap (λ (xs : List NotedSolid). length xs) items ∙ length-append old.solids.items (s ∷ [])

    same : (k : ℕ) → k ≤ length old.solids.items → area_of (note_rows new.solids.items) k ≡ area_of (note_rows old.solids.items) k
    same k h = ap (λ rs. area_of rs k) rows ∙ area_prefix (note_rows old.solids.items) (s.row ∷ []) k (let c = count in omega (arith, h, c))

    by : (k : ℕ) → (k < length old.solids.items) ⊎ (length old.solids.items ≤ k) → k < length new.solids.items → area_of (note_rows new.solids.items) k ≤ℤ height
    by k (inl low) h = subst (λ (z : ℤ). z ≤ℤ height) (sym (same k (omega arith))) (short.before k low)
    by k (inr high) h =
        let n = size in
        let at : k ≡ length old.solids.items = omega (arith, n, h, high) in
        subst (λ (z : ℤ). z ≤ℤ height) (sym (same k (omega (arith, at))) ∙ refl) (subst (λ (j : ℕ). area_of (note_rows old.solids.items) j ≤ℤ height) (sym at) (short.all room))
