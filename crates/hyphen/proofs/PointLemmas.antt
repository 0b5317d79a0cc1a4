-- The points of a word, place by place.
use Rattle.std.proofs.Common.{◌≡◌, ℕ, zero, suc, ◌+◌, ◌-◌, ◌<◌, ◌≤◌, Bool, true, false, ◌&&◌, ◌%◌, eqb, leb, List, [], ◌∷◌, ◌++◌, length, get_or, map, refl, sym, ap, ◌∙◌, arith, ⊎_elim, if◌then◌else◌, add-one, append-nil}
use Rattle.std.specs.Prelude.{filter}
use Rattle.std.specs.List.{range_with_len}
use Rattle.std.specs.Char.{len_utf8}
use Rattle.std.proofs.lemmas.Bool.{cases_lt}
use Rattle.std.proofs.lemmas.Bool.Decides.{nat_tests}
use Rattle.std.proofs.lemmas.List.{map-append}
use Rattle.std.proofs.lemmas.List.Elements.{filter-append}
use Rattle.std.proofs.lemmas.List.Sums.{sum_by_more}
use Rattle.bk_num.proofs.ListLemmas.{range-more}
use Rattle.hyphen.specs.Points.{is_point, letters_of, offset_of, places_of, points_of}

-- one more place: a point or none
places_more : (p : ℕ → Bool) (n : ℕ) → filter p (range_with_len 0 (n + 1)) ≡ filter p (range_with_len 0 n) ++ (if p n then n ∷ [] else [])
places_more p n =
    let up : n + 1 ≡ suc n = add-one n in
    let front = filter p (range_with_len 0 n) in
    ap (λ (m : ℕ). filter p (range_with_len 0 m)) up ∙ ap (filter p) (range-more 0 n) ∙ filter-append p (range_with_len 0 n) ((0 + n) ∷ []) ∙ ap (λ (l : List ℕ). front ++ l) last
  where
    last : filter p ((0 + n) ∷ []) ≡ (if p n then n ∷ [] else [])
    last = let e : 0 + n ≡ n = omega arith in ap (λ (m : ℕ). filter p (m ∷ [])) e

pub places_taken : (p : ℕ → Bool) (n : ℕ) (places : List ℕ) → places ≡ filter p (range_with_len 0 n) → p n ≡ true → places ++ n ∷ [] ≡ filter p (range_with_len 0 (n + 1))
places_taken p n places so_far holds = rw (places_more p n, holds, so_far) refl

pub places_passed : (p : ℕ → Bool) (n : ℕ) (places : List ℕ) → places ≡ filter p (range_with_len 0 n) → p n ≡ false → places ≡ filter p (range_with_len 0 (n + 1))
places_passed p n places so_far fails = so_far ∙ sym (rw (places_more p n, fails) (append-nil (filter p (range_with_len 0 n))))

pub points_taken : (f : ℕ → ℕ) (p : ℕ → Bool) (n : ℕ) (points : List ℕ) → points ≡ map f (filter p (range_with_len 0 n)) → p n ≡ true → points ++ f n ∷ [] ≡ map f (filter p (range_with_len 0 (n + 1)))
points_taken f p n points so_far holds =
    let places = filter p (range_with_len 0 n) in
    ap (λ (l : List ℕ). l ++ f n ∷ []) so_far ∙ sym (map-append f places (n ∷ [])) ∙ ap (map f) (places_taken p n places refl holds)

pub points_passed : (f : ℕ → ℕ) (p : ℕ → Bool) (n : ℕ) (points : List ℕ) → points ≡ map f (filter p (range_with_len 0 n)) → p n ≡ false → points ≡ map f (filter p (range_with_len 0 (n + 1)))
points_passed f p n points so_far fails = so_far ∙ ap (map f) (places_passed p n (filter p (range_with_len 0 n)) refl fails)

pub offset_next : (letters : List ℕ) (place d : ℕ) → place < length letters → offset_of letters (place + 1) ≡ offset_of letters place + len_utf8 (get_or letters place d)
unfolding offset_of
offset_next letters place d h = sum_by_more len_utf8 letters place d h

pub offset_none : (letters : List ℕ) → offset_of letters 0 ≡ 0
unfolding offset_of
offset_none letters = refl

not_here : (n left right place : ℕ) (value : ℕ → ℕ) → n < left + right → place ≤ n → is_point n left right value place ≡ false
unfolding is_point
not_here n left right place value small h = ⊎_elim
    (λ (l : place < left). let less : leb left place ≡ false = grind (arith, nat_tests) in rw less (first (eqb (value place % 2) 1) (leb 1 place) (leb right (n - place))))
    (λ (l : left ≤ place). let less : leb right (n - place) ≡ false = grind (arith, nat_tests) in rw less (second (eqb (value place % 2) 1 && (leb 1 place && leb left place))))
    (cases_lt place left)
  where
    first : (a b c : Bool) → ((a && (b && false)) && c) ≡ false
    first true true c = refl
    first true false c = refl
    first false b c = refl

    second : (a : Bool) → (a && false) ≡ false
    second true = refl
    second false = refl

-- a word with fewer letters than stand before and after a point has none
none_from : (n left right a m : ℕ) (value : ℕ → ℕ) → n < left + right → a + m ≤ n → filter (is_point n left right value) (range_with_len a m) ≡ []
none_from n left right a zero value small h = refl
none_from n left right a (suc m) value small h = rw (fails, none_from n left right (a + 1) m value small (omega arith)) refl
  where
    fails : is_point n left right value a ≡ false
    fails = not_here n left right a value small (omega arith)

no_places : (letters : List ℕ) (left right : ℕ) (value : List ℕ → ℕ → ℕ) → length letters < left + right → places_of value letters left right ≡ []
unfolding places_of
no_places letters left right value small = none_from (length letters) left right 0 (length letters) (value letters) small (omega arith)

pub no_points : (word : List ℕ) (left right : ℕ) (value : List ℕ → ℕ → ℕ) → length (letters_of word) < left + right → points_of value word left right ≡ []
unfolding points_of
no_points word left right value small = ap (map (offset_of (letters_of word))) (no_places (letters_of word) left right value small)

-- the whole word
pub points_end : (value : List ℕ → ℕ → ℕ) (word letters points : List ℕ) (left right place : ℕ) → letters ≡ letters_of word → place ≡ length letters → points ≡ map (offset_of letters) (filter (is_point (length letters) left right (value letters)) (range_with_len 0 place)) → points ≡ points_of value word left right
unfolding points_of places_of
points_end value word letters points left right place is all so_far = so_far ∙ rw (all, is) refl

-- a place that was tested
pub point_is : (n left right place v : ℕ) (value : ℕ → ℕ) (r : Bool) → r ≡ (eqb (v % 2) 1 && (leb 1 place && leb left place) && leb right (n - place)) → v ≡ value place → r ≡ is_point n left right value place
unfolding is_point
point_is n left right place v value r is same = is ∙ rw same refl
