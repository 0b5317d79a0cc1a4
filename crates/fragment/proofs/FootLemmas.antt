-- How far the solids reach that a page places, and that their tops keep their bounds.
use Rattle.std.proofs.Common.{◌≡◌, ◌≤◌, ◌<◌, ◌+◌, ◌*◌, ◌^◌, ℕ, zero, suc, ℤ, pos, neg_ℤ, ◌≤ℤ◌, ◌+ℤ◌, true, false, Bool, All, List, [], ◌∷◌, ◌++◌, Option, Some, length, map, take, drop, slice_get, refl, sym, ap, ◌∙◌, subst, arith, add-zero}
use Rattle.std.specs.Int.{int_max}
use Rattle.std.specs.Option.{option_map}
use Rattle.std.proofs.lemmas.Int.{ints}
use Rattle.std.proofs.lemmas.List.{length-map, length-take-le, map-append, take-append-drop}
use Rattle.std.proofs.lemmas.List.Elements.{All-nil, All-cons, All-map}
use Rattle.std.proofs.lemmas.Option.{slice_get-map}
use Rattle.bk_num.specs.Numbers.{IsWithin}
use Rattle.boxes.specs.Tree.{Tree}
use Rattle.cursor.specs.declared.solid.Solid.{Solid}
use Rattle.cursor.specs.Fields.{solid_view}
use Rattle.cursor.specs.Remainder.{SolidView, IsSmallSolid}
use Rattle.cuts.specs.declared.row.SolidRow.{SolidRow}
use Rattle.cuts.specs.Rows.{rows_bottom, rows_extent, row_gap, row_height}
use Rattle.cuts.proofs.AppendLemmas.{extent-append}
use Rattle.page_list.specs.Cuts.{first_gap, placed_below, placed_from, row_of, rows_of}
use Rattle.page_list.proofs.InsideLemmas.{Are, shift, one_more, top_is}
use Rattle.notes.specs.Near.{IsNearSolid}
use Rattle.fragment.specs.Solids.{foot_from}

-- ---- the tops
-- the bottom of the first k solids of a page is within 2^33 units for each of them, and 2^41 for what stands again above
-- the first
near_below : (k : ℕ) (bottom : ℤ) (solids : List SolidView) → k + length solids ≤ 2 ^ 26 → neg_ℤ (pos (2 ^ 33 * k + 2 ^ 41)) ≤ℤ bottom → bottom ≤ℤ pos (2 ^ 33 * k + 2 ^ 41) → All IsSmallSolid solids → All IsNearSolid (placed_below bottom solids)
near_below k bottom [] few low high small = All-nil IsNearSolid
near_below k bottom (s ∷ solids) few low high small =
    let head : IsSmallSolid s = small 0 s (omega arith) in
    let gap = head.whole in
    let height = head.height in
    let some = head.some in
    All-cons IsNearSolid _ _ (record { top = omega (arith, ints); height = height; some = some })
    (near_below (suc k) ((bottom +ℤ s.seam.whole_gap) +ℤ s.height) solids (omega arith) (omega (arith, ints)) (omega (arith, ints)) (λ i d less. small (suc i) d (omega arith)))

near_from : (first : ℤ) (solids : List SolidView) → length solids ≤ 2 ^ 26 → IsWithin (2 ^ 41) first → All IsSmallSolid solids → All IsNearSolid (placed_from first solids)
near_from first [] few gap small = All-nil IsNearSolid
near_from first (s ∷ solids) few gap small =
    let head : IsSmallSolid s = small 0 s (omega arith) in
    let height = head.height in
    let some = head.some in
    All-cons IsNearSolid _ _ (record { top = omega (arith, ints); height = height; some = some })
    (near_below 1 (first +ℤ s.height) solids (omega arith) (omega (arith, ints)) (omega (arith, ints)) (λ i d less. small (suc i) d (omega arith)))

first_near : (kept : Bool) (solids : List SolidView) → All IsSmallSolid solids → IsWithin (2 ^ 41) (first_gap kept solids)
first_near kept [] small = omega (arith, ints)
first_near true (s ∷ solids) small = let f = small 0 s (omega arith) in let head = f.head in let gap = f.kept in omega (arith, ints)
first_near false (s ∷ solids) small = let f = small 0 s (omega arith) in let head = f.head in omega (arith, ints)

pub near_first : (kept : Bool) (solids : List Solid) → length solids ≤ 2 ^ 26 → All (λ s. IsSmallSolid (solid_view s)) solids → All IsNearSolid (placed_from (first_gap kept (map solid_view solids)) (map solid_view solids))
near_first kept solids few small =
    let views : All IsSmallSolid (map solid_view solids) = All-map IsSmallSolid solid_view solids small in
    near_from (first_gap kept (map solid_view solids)) (map solid_view solids) (rw length-map few) (first_near kept (map solid_view solids) views) views

-- ---- the greatest bottom
foot_below : (t : Tree) (kept : Bool) (whole : List SolidRow) (n : ℕ) (xs : List SolidView) → Are t whole (suc n) xs → foot_from (rows_extent kept whole (suc n)) (placed_below (rows_bottom kept whole (suc n)) xs) ≡ rows_extent kept whole (suc n + length xs)
foot_below t kept whole n [] same = ap (rows_extent kept whole) (sym (add-zero (suc n)))
foot_below t kept whole n (s ∷ xs) same =
    let got : slice_get whole (suc n) ≡ Some (row_of t s) = subst (λ (i : ℕ). slice_get whole i ≡ Some (row_of t s)) (add-zero (suc n)) (same 0 s refl) in
    let here : (rows_bottom kept whole (suc n) +ℤ s.seam.whole_gap) +ℤ s.height ≡ rows_bottom kept whole (suc (suc n)) = ap (λ (o : Option SolidRow). (rows_bottom kept whole (suc n) +ℤ row_gap o) +ℤ row_height o) (sym got) in
    let later : Are t whole (suc (suc n)) xs = λ k r e. subst (λ (i : ℕ). slice_get whole i ≡ Some (row_of t r)) (shift (suc n) k) (same (suc k) r e) in
    ap (λ (b : ℤ). foot_from (int_max (rows_extent kept whole (suc n)) b) (placed_below b xs)) here
    ∙ foot_below t kept whole (suc n) xs later
    ∙ ap (rows_extent kept whole) (sym (shift (suc n) (length xs)))

foot_all : (t : Tree) (kept : Bool) (solids : List SolidView) → foot_from (pos 0) (placed_from (first_gap kept solids) solids) ≡ rows_extent kept (rows_of t solids) (length solids)
foot_all t kept [] = refl
foot_all t kept (s ∷ xs) =
    let first : ℤ = first_gap kept (s ∷ xs) in
    let top = top_is t kept s xs in
    let here : first +ℤ s.height ≡ rows_bottom kept (rows_of t (s ∷ xs)) 1 = omega (arith, ints) in
    let later : Are t (rows_of t (s ∷ xs)) 1 xs = λ k r e. subst (λ (i : ℕ). slice_get (rows_of t (s ∷ xs)) i ≡ Some (row_of t r)) (one_more k) (slice_get-map (row_of t) xs k ∙ ap (option_map (row_of t)) e) in
    ap (λ (b : ℤ). foot_from (int_max (pos 0) b) (placed_below b xs)) here
    ∙ foot_below t kept (rows_of t (s ∷ xs)) 0 xs later
    ∙ ap (rows_extent kept (rows_of t (s ∷ xs))) (sym (one_more (length xs)))

pub first_taken : (kept : Bool) (solids : List SolidView) (j : ℕ) → 0 < j → first_gap kept (take j solids) ≡ first_gap kept solids
first_taken kept solids zero some = absurd (omega arith)
first_taken kept [] (suc j) some = refl
first_taken kept (s ∷ solids) (suc j) some = refl

-- what a page places reaches as far as its cut says
pub foot_is : (t : Tree) (kept : Bool) (solids : List SolidView) (j : ℕ) → 0 < j → j ≤ length solids → foot_from (pos 0) (placed_from (first_gap kept solids) (take j solids)) ≡ rows_extent kept (rows_of t solids) j
foot_is t kept solids j some low =
    let size : length (take j solids) ≡ j = length-take-le j solids low in
    let rows_size : length (rows_of t (take j solids)) ≡ j = length-map (take j solids) (row_of t) ∙ size in
    let all : rows_of t (take j solids) ++ rows_of t (drop j solids) ≡ rows_of t solids = sym (map-append (row_of t) (take j solids) (drop j solids)) ∙ ap (λ (l : List SolidView). map (row_of t) l) (take-append-drop j solids) in
    ap (λ (z : ℤ). foot_from (pos 0) (placed_from z (take j solids))) (sym (first_taken kept solids j some))
    ∙ foot_all t kept (take j solids)
    ∙ ap (rows_extent kept (rows_of t (take j solids))) size
    ∙ sym (extent-append kept (rows_of t (take j solids)) (rows_of t (drop j solids)) j (omega arith))
    ∙ ap (λ (rs : List SolidRow). rows_extent kept rs j) all
