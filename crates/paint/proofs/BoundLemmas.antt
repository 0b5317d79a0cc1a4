-- How far boxes and note areas reach, by the bounds of the solids on a page.
use Rattle.std.proofs.Common.{◌≡◌, ◌<◌, ◌^◌, ◌+◌, ◌+ℤ◌, ◌≤ℤ◌, ℕ, zero, suc, ℤ, pos, Bool, true, false, List, [], ◌∷◌, Option, None, Some, length, slice_get, refl, subst, arith, w64}
use Rattle.std.proofs.lemmas.Int.{clamps, fits_signed_from_abs, ints}
use Rattle.std.proofs.lemmas.List.Elements.{All-head, All-tail}
use Rattle.std.proofs.lemmas.Option.{same_Some}
use Rattle.std.specs.List.{All}
use Rattle.std.specs.Option.{ForSome}
use Rattle.std.specs.Int.{int_max, int_min}
use Rattle.bk_num.specs.Limits.{separator}
use Rattle.bk_num.specs.Numbers.{IsWithin}
use Rattle.boxes.specs.declared.page.Placed.{Placed}
use Rattle.notes.specs.Notes.{HaveBottoms, placed_bottom, placed_height}
use Rattle.notes.specs.Stacked.{greatest_of}
use Rattle.notes.specs.Near.{IsNearSolid}
use Rattle.paint.specs.Bounds.{IsNearBottom, IsNearExtent, IsNearFoot, IsNearReach}
use Rattle.paint.specs.Clones.{lowest}
use Rattle.paint.specs.Fragments.{extent_of, here, join, reach_by}
use Rattle.paint.specs.declared.extent.VerticalExtent.{VerticalExtent}

-- ---- how far a box reaches

solid_near : (s : Placed) → IsNearSolid s → IsNearReach (extent_of s)
solid_near s near =
    let top = near.top in
    let height = near.height in
    record { top = top; bottom = omega (arith, ints, top, height) }

abbrev join_of : VerticalExtent → VerticalExtent → VerticalExtent
join_of a b = record { top = int_min a.top b.top; bottom = int_max a.bottom b.bottom }

joined_near : (a b : VerticalExtent) → IsNearReach a → IsNearReach b → (e : VerticalExtent) → join (Some a) (Some b) ≡ Some e → IsNearReach e
joined_near a b x y e is =
    let same : join_of a b ≡ e = same_Some _ _ is in
    let xt = x.top in
    let yt = y.top in
    let xb = x.bottom in
    let yb = y.bottom in
    subst IsNearReach same (record { top = omega (arith, ints, clamps, xt, yt); bottom = omega (arith, ints, clamps, xb, yb) })

join_near : (a b : Option VerticalExtent) → ForSome a IsNearReach → ForSome b IsNearReach → ForSome (join a b) IsNearReach
join_near None b x y = y
join_near (Some a) None x y = x
join_near (Some a) (Some b) x y = λ e is. joined_near a b (x a refl) (y b refl) e is

here_near : (b : Bool) (e : VerticalExtent) → IsNearReach e → ForSome (here b e) IsNearReach
here_near true e near = λ x is. let same : e ≡ x = cc in subst IsNearReach same near
here_near false e near = λ x is. absurd (cc)

pub reach_near : (test : Placed → Bool) (solids : List Placed) → All IsNearSolid solids → ForSome (reach_by test solids) IsNearReach
reach_near test [] near = λ x is. absurd (cc)
reach_near test (s ∷ solids) near =
    join_near (here (test s) (extent_of s)) (reach_by test solids) (here_near (test s) (extent_of s) (solid_near s (All-head IsNearSolid s solids near))) (reach_near test solids (All-tail IsNearSolid s solids near))

pub extent_near : (test : Placed → Bool) (solids : List Placed) → All IsNearSolid solids → ForSome (reach_by test solids) IsNearExtent
extent_near test solids near e is =
    let reach = reach_near test solids near e is in
    let top = reach.top in
    let bottom = reach.bottom in
    record { top = omega (arith, ints, top); bottom = omega (arith, ints, bottom) }

-- ---- lower edges that stand again

abbrev foot_by : ℤ → ℤ → VerticalExtent
foot_by top height = record { top = top; bottom = top +ℤ height }

pub lowest_near : (n : ℕ) (inner : Option ℤ) (e : VerticalExtent) → ForSome inner (IsNearBottom n) → IsNearReach e → IsNearBottom n (lowest inner e)
lowest_near n None e low near = let bottom = near.bottom in omega (arith, ints, bottom)
lowest_near n (Some z) e low near =
    let bottom = near.bottom in
    let own = low z refl in
    omega (arith, ints, clamps, bottom, own)

pub foot_near : (n : ℕ) (top height : ℤ) (e : VerticalExtent) → IsNearBottom n top → pos 0 ≤ℤ height → height ≤ℤ pos (2 ^ 28) → Some (record { top = top; bottom = top +ℤ height }) ≡ Some e → IsNearFoot (suc n) e
foot_near n top height e near low high is =
    let same : foot_by top height ≡ e = same_Some _ _ is in
    subst (IsNearFoot (suc n)) same (record { top = omega (arith, ints, near); bottom = omega (arith, ints, near, low, high) })

-- ---- how far notes reach

bottom_near : (notes : List (ℕ × Placed)) → All (λ note. IsNearSolid note.1) notes → (k : ℕ) → k < length notes → IsWithin (2 ^ 60 + 2 ^ 32) (placed_bottom (slice_get notes k))
bottom_near [] near k low = absurd (omega arith)
bottom_near (n ∷ notes) near zero low =
    let first : IsNearSolid n.1 = All-head (λ note. IsNearSolid note.1) n notes near in
    let top = first.top in
    let height = first.height in
    omega (arith, ints, top, height)
bottom_near (n ∷ notes) near (suc k) low = bottom_near notes (All-tail (λ note. IsNearSolid note.1) n notes near) k (omega arith)

pub have_bottoms : (notes : List (ℕ × Placed)) → All (λ note. IsNearSolid note.1) notes → HaveBottoms notes
have_bottoms notes near k low = let within = bottom_near notes near k low in fits_signed_from_abs w64 (placed_bottom (slice_get notes k)) (omega (arith, within))

greatest_near : (bottom : ℕ → ℤ) (n : ℕ) → ((k : ℕ) → k < n → IsWithin (2 ^ 60 + 2 ^ 32) (bottom k)) → (pos 0 ≤ℤ greatest_of separator bottom n) × (greatest_of separator bottom n ≤ℤ pos (2 ^ 60 + 2 ^ 32))
greatest_near bottom zero near = (omega (arith, ints), omega (arith, ints))
greatest_near bottom (suc n) near =
    let before = greatest_near bottom n (λ k low. near k (omega arith)) in
    let least = before.0 in
    let most = before.1 in
    let last = near n (omega arith) in
    (omega (arith, ints, clamps, least, last), omega (arith, ints, clamps, most, last))

-- a note area is at most so high
pub height_near : (notes : List (ℕ × Placed)) → All (λ note. IsNearSolid note.1) notes → (pos 0 ≤ℤ placed_height notes) × (placed_height notes ≤ℤ pos (2 ^ 60 + 2 ^ 32))
height_near notes near = greatest_near (λ k. placed_bottom (slice_get notes k)) (length notes) (λ k low. bottom_near notes near k low)
