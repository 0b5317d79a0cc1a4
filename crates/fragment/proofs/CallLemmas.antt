-- How many notes are called where a page ends after so many solids.
use Rattle.std.proofs.Common.{◌≡◌, ◌≤◌, ◌+◌, ℕ, zero, suc, ℤ, List, [], ◌∷◌, None, Some, slice_get, refl, sym, ap, ◌∙◌, subst, arith}
use Rattle.metrics.specs.Face.{FontFace}
use Rattle.boxes.specs.Tree.{Tree, IsTree}
use Rattle.boxes.specs.declared.flow.Note.{Note}
use Rattle.boxes.specs.declared.place.Position.{Position}
use Rattle.seams.specs.Runs.{solid_after}
use Rattle.cursor.specs.Remainder.{SolidView, IsSolid, IsRemainder}
use Rattle.cursor.proofs.RemLemmas.{Stands, solid_stands}
use Rattle.note_list.specs.Calls.{called_before}
use Rattle.page_list.specs.Cuts.{place_after}
use Rattle.page_list.proofs.ExistLemmas.{called_within}
use Rattle.fragment.specs.Reads.{called_by}
use Rattle.fragment.proofs.PlaceLemmas.{before_end, by_all, called_grows, called_grows_here, called_is}

-- how many notes are called before the place after j solids
abbrev pub called_at : Tree → List Note → List SolidView → ℕ → ℕ
called_at t notes xs j = called_before t notes (place_after t (slice_get xs j))

module _ (faces : List FontFace) (t : Tree) (w : ℤ) (tree : IsTree t) (notes : List Note) where
  -- those that are called by the end of the last of them
  pub called_end : (from : Position) (xs : List SolidView) → Stands t from → IsRemainder faces t w from xs → (j : ℕ) (s : SolidView) → slice_get xs j ≡ Some s → called_at t notes xs (suc j) ≡ called_by t notes s.end
  called_end from [] st r j s e = absurd (cc)
  called_end from (x ∷ []) st r zero s e =
      let same : x ≡ s = cc in
      let none : solid_after t x.end.event ≡ None = subst (λ (p : Position). solid_after t p.event ≡ None) r.1.1 r.2 in
      before_end t notes ∙ sym (by_all t notes x.end none) ∙ ap (λ (v : SolidView). called_by t notes v.end) same
  called_end from (x ∷ y ∷ ys) st r zero s e =
      let same : x ≡ s = cc in
      let second : IsSolid faces t w x.end y = subst (λ (p : Position). IsSolid faces t w p y) r.1.1 r.2.1.0 in
      called_is faces t w from x y notes tree st r.1.0 second ∙ ap (λ (v : SolidView). called_by t notes v.end) same
  called_end from (x ∷ xs) st r (suc j) s e = called_end r.0 xs (subst (Stands t) (sym r.1.1) (solid_stands faces t w from x tree st r.1.0)) r.2 j s e

  -- no fewer after one solid more
  called_next : (from : Position) (xs : List SolidView) → Stands t from → IsRemainder faces t w from xs → (j : ℕ) → called_at t notes xs j ≤ called_at t notes xs (suc j)
  called_next from [] st r j = omega arith
  called_next from (x ∷ xs) st r zero =
      let grows = called_grows_here faces t w from x tree st r.1.0 notes in
      let is = called_end from (x ∷ xs) st r 0 x refl in
      omega arith
  called_next from (x ∷ xs) st r (suc j) = called_next r.0 xs (subst (Stands t) (sym r.1.1) (solid_stands faces t w from x tree st r.1.0)) r.2 j

  pub called_more : (from : Position) (xs : List SolidView) → Stands t from → IsRemainder faces t w from xs → (j n : ℕ) → called_at t notes xs j ≤ called_at t notes xs (j + n)
  called_more from xs st r j zero = let same : j + 0 ≡ j = omega arith in rw same (omega arith)
  called_more from xs st r j (suc n) =
      let low = called_more from xs st r j n in
      let next = called_next from xs st r (j + n) in
      let same : j + suc n ≡ suc (j + n) = omega arith in
      rw same (omega arith)

  -- no fewer than before the first one
  pub called_first : (from : Position) (xs : List SolidView) → Stands t from → IsRemainder faces t w from xs → (j : ℕ) → called_before t notes from ≤ called_at t notes xs (suc j)
  called_first from [] st r j =
      let all = before_end t notes in
      let most = called_within t notes from in
      omega arith
  called_first from (x ∷ xs) st r j =
      let grows = called_grows faces t w from x tree st r.1.0 notes in
      let is = called_end from (x ∷ xs) st r 0 x refl in
      let more = called_more from (x ∷ xs) st r 1 j in
      let same : 1 + j ≡ suc j = omega arith in
      let low : called_at t notes (x ∷ xs) 1 ≤ called_at t notes (x ∷ xs) (suc j) = subst (λ (n : ℕ). called_at t notes (x ∷ xs) 1 ≤ called_at t notes (x ∷ xs) n) same more in
      omega arith
