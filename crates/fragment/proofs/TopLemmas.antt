-- Solids on their page, one under the other.
use Rattle.std.proofs.Common.{◌≡◌, ◌+◌, ◌*◌, ◌^◌, ℕ, ℤ, pos, neg_ℤ, ◌+ℤ◌, ◌≤ℤ◌, List, [], ◌∷◌, ◌++◌, Some, drop, slice_get, refl, sym, ap, ◌∙◌, arith, add-one, append_assoc}
use Rattle.std.specs.Int.{int_max}
use Rattle.std.proofs.lemmas.Int.{ints}
use Rattle.bk_num.proofs.ListLemmas.{drop-next}
use Rattle.boxes.specs.declared.page.Placed.{Placed}
use Rattle.cursor.specs.Remainder.{SolidView}
use Rattle.page_list.specs.Cuts.{placed_from, placed_below, placed_at}
use Rattle.fragment.specs.Solids.{foot_from}

-- the first solid stands under the gap of the page
pub place_begun : (first under : ℤ) (views : List SolidView) (s : SolidView) (items pushed : List Placed) → slice_get views 0 ≡ Some s →
    items ≡ [] → under ≡ first +ℤ s.height → pushed ≡ items ++ placed_at first s ∷ [] → placed_from first views ≡ pushed ++ placed_below under (drop 1 views)
place_begun first under views s items pushed there items_is under_is push_is =
    let rest : views ≡ s ∷ drop 1 views = drop-next views 0 s there in
    let tail : List Placed = placed_below under (drop 1 views) in
    ap (placed_from first) rest ∙ ap (λ (z : ℤ). placed_at first s ∷ placed_below z (drop 1 views)) (sym under_is)
    ∙ ap (λ (ps : List Placed). (ps ++ placed_at first s ∷ []) ++ tail) (sym items_is) ∙ ap (λ (ps : List Placed). ps ++ tail) (sym push_is)

-- one more solid stands under those that are placed
pub place_more : (first bottom under : ℤ) (views : List SolidView) (s : SolidView) (at : ℕ) (items pushed : List Placed) → slice_get views at ≡ Some s →
    placed_from first views ≡ items ++ placed_below bottom (drop at views) → under ≡ (bottom +ℤ s.seam.whole_gap) +ℤ s.height →
    pushed ≡ items ++ placed_at (bottom +ℤ s.seam.whole_gap) s ∷ [] → placed_from first views ≡ pushed ++ placed_below under (drop (at + 1) views)
place_more first bottom under views s at items pushed there placed under_is push_is =
    let p : Placed = placed_at (bottom +ℤ s.seam.whole_gap) s in
    let rest : drop at views ≡ s ∷ drop (at + 1) views = drop-next views at s there ∙ ap (λ (n : ℕ). s ∷ drop n views) (sym (add-one at)) in
    let tail : List Placed = placed_below under (drop (at + 1) views) in
    placed ∙ ap (λ (xs : List SolidView). items ++ placed_below bottom xs) rest ∙ ap (λ (z : ℤ). items ++ p ∷ placed_below z (drop (at + 1) views)) (sym under_is)
    ∙ sym (append_assoc items (p ∷ []) tail) ∙ ap (λ (ps : List Placed). ps ++ tail) (sym push_is)

-- the greatest bottom with one solid more
pub foot_push : (least : ℤ) (items : List Placed) (p : Placed) → foot_from least (items ++ p ∷ []) ≡ int_max (foot_from least items) (p.top +ℤ p.height)
foot_push least [] p = refl
foot_push least (x ∷ items) p = foot_push (int_max least (x.top +ℤ x.height)) items p

-- each solid but the first is at most 2^33 units farther down
pub low_more : (bottom under : ℤ) (at : ℕ) → neg_ℤ (pos (2 ^ 33 * at + 2 ^ 41)) ≤ℤ bottom → bottom ≤ℤ (under +ℤ pos (2 ^ 32)) → neg_ℤ (pos (2 ^ 33 * (at + 1) + 2 ^ 41)) ≤ℤ under
low_more bottom under at low more = omega (arith, ints)

pub high_more : (bottom under : ℤ) (at : ℕ) → bottom ≤ℤ pos (2 ^ 33 * at + 2 ^ 41) → under ≤ℤ (bottom +ℤ pos (2 ^ 33)) → under ≤ℤ pos (2 ^ 33 * (at + 1) + 2 ^ 41)
high_more bottom under at high more = omega (arith, ints)
