-- The note area of the solids that a page places is as high as the room that they take.
use Rattle.std.proofs.Common.{◌≡◌, ◌+◌, ◌<◌, ℕ, zero, suc, ℤ, ◌+ℤ◌, List, [], ◌∷◌, Option, Some, length, take, slice_get, refl, sym, ap, ap₂, ◌∙◌, subst, arith, add-zero}
use Rattle.std.specs.Int.{int_max}
use Rattle.std.specs.Option.{option_map}
use Rattle.std.proofs.lemmas.Int.{ints}
use Rattle.std.proofs.lemmas.List.{length-take-le}
use Rattle.std.proofs.lemmas.Option.{slice_get-map}
use Rattle.bk_num.specs.Limits.{separator}
use Rattle.bk_num.proofs.ListLemmas.{get-take}
use Rattle.notes.specs.declared.solid.NoteSolid.{NoteSolid}
use Rattle.notes.specs.Notes.{note_bottom, note_gap, note_height, placed_bottom}
use Rattle.notes.specs.Stacked.{greatest_of}
use Rattle.notes.proofs.NoteLemmas.{area_is}
use Rattle.note_list.specs.Areas.{PlacesTakeTheirRoom}
use Rattle.note_list.specs.Lists.{note_rows, placed_notes}
use Rattle.note_list.specs.declared.solid.NotedSolid.{NotedSolid}

greatest_same : (least : ℤ) (f g : ℕ → ℤ) (n : ℕ) → ((k : ℕ) → k < n → f k ≡ g k) → greatest_of least f n ≡ greatest_of least g n
greatest_same least f g zero same = refl
greatest_same least f g (suc n) same = ap₂ (λ (x y : ℤ). int_max x y) (greatest_same least f g n (λ k low. same k (omega arith))) (same n (omega arith))

placed_length : (bottom : ℤ) (xs : List NotedSolid) → length (placed_notes bottom xs) ≡ length xs
placed_length bottom [] = refl
placed_length bottom (s ∷ xs) = ap suc (placed_length ((bottom +ℤ s.row.gap) +ℤ s.row.height) xs)

-- some solids are those of a list from a place on
abbrev Are : List NoteSolid → ℕ → List NotedSolid → Type 0
Are whole m xs = (k : ℕ) (s : NotedSolid) → slice_get xs k ≡ Some s → slice_get whole (m + k) ≡ Some s.row

shift : (m n : ℕ) → suc m + n ≡ m + suc n
shift m n = omega arith

-- the bottom of one solid more
below : (whole : List NoteSolid) (m : ℕ) (s : NotedSolid) (bottom : ℤ) → bottom ≡ separator +ℤ note_bottom whole m → slice_get whole m ≡ Some s.row → (bottom +ℤ s.row.gap) +ℤ s.row.height ≡ separator +ℤ note_bottom whole (suc m)
below whole m s bottom is got =
    let here : note_bottom whole (suc m) ≡ (note_bottom whole m +ℤ s.row.gap) +ℤ s.row.height = ap (λ (o : Option NoteSolid). (note_bottom whole m +ℤ note_gap o) +ℤ note_height o) got in
    omega (arith, ints)

bottom_at : (whole : List NoteSolid) (m : ℕ) (xs : List NotedSolid) (bottom : ℤ) → bottom ≡ separator +ℤ note_bottom whole m → Are whole m xs → (k : ℕ) → k < length xs → placed_bottom (slice_get (placed_notes bottom xs) k) ≡ separator +ℤ note_bottom whole (m + suc k)
bottom_at whole m [] bottom is same k less = absurd (omega arith)
bottom_at whole m (s ∷ xs) bottom is same zero less =
    let one : suc m ≡ m + 1 = omega arith in
    below whole m s bottom is (subst (λ (i : ℕ). slice_get whole i ≡ Some s.row) (add-zero m) (same 0 s refl)) ∙ ap (λ (i : ℕ). separator +ℤ note_bottom whole i) one
bottom_at whole m (s ∷ xs) bottom is same (suc k) less =
    let next = below whole m s bottom is (subst (λ (i : ℕ). slice_get whole i ≡ Some s.row) (add-zero m) (same 0 s refl)) in
    let later : Are whole (suc m) xs = λ j r e. subst (λ (i : ℕ). slice_get whole i ≡ Some r.row) (sym (shift m j)) (same (suc j) r e) in
    bottom_at whole (suc m) xs ((bottom +ℤ s.row.gap) +ℤ s.row.height) next later k (omega arith) ∙ ap (λ (i : ℕ). separator +ℤ note_bottom whole i) (shift m (suc k))

pub places_take_their_room : PlacesTakeTheirRoom
places_take_their_room list n some low =
    let size : length (take n list) ≡ n = length-take-le n list low in
    let rows : List NoteSolid = note_rows list in
    let are : Are (note_rows list) 0 (take n list) = λ k s e. subst (λ (i : ℕ). slice_get (note_rows list) i ≡ Some s.row) (let z : k ≡ 0 + k = omega arith in z) (slice_get-map (λ (x : NotedSolid). x.row) list k ∙ ap (option_map (λ (x : NotedSolid). x.row)) ((get-take list n k s e).1)) in
    ap (greatest_of separator (λ k. placed_bottom (slice_get (placed_notes separator (take n list)) k))) (placed_length separator (take n list) ∙ size)
    ∙ greatest_same separator (λ k. placed_bottom (slice_get (placed_notes separator (take n list)) k)) (λ k. separator +ℤ note_bottom (note_rows list) (suc k)) n
    (λ k h. bottom_at (note_rows list) 0 (take n list) separator (omega (arith, ints)) are k (omega arith) ∙ ap (λ (i : ℕ). separator +ℤ note_bottom (note_rows list) i) (let z : 0 + suc k ≡ suc k = omega arith in z))
    ∙ sym (area_is (note_rows list) n some)
