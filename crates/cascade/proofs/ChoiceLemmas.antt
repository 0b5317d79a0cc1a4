-- The choice, a declaration at a time.
use Rattle.std.proofs.Common.{◌≡◌, ℕ, zero, suc, ◌+◌, ◌<◌, List, [], ◌∷◌, ◌++◌, Option, None, Some, option_map, length, map, drop, get_or, slice_get, slice_set, append_assoc, refl, sym, ap, ◌∙◌, arith}
use Rattle.std.specs.List.{fold}
use Rattle.std.proofs.Math.Seq.{drop-cons}
use Rattle.std.proofs.lemmas.Option.{slice_get-map, slice_get-get_or}
use Rattle.std.proofs.lemmas.List.Sums.{fold-append}
use Rattle.bk_num.specs.Sides.{place_of}
use Rattle.bk_num.specs.declared.sides.BoxSide.{BoxSide}
use Rattle.bk_num.specs.declared.sides.BoxSide.TheVariants as side
use Rattle.style.specs.declared.longhand.Longhand.{Longhand}
use Rattle.style.specs.declared.longhand.Longhand.TheVariants as longhand
use Rattle.style.specs.Longhands.{longhand_count, number_of}
use Rattle.style.specs.declared.long.Long.{Long}
use Rattle.cascade.specs.declared.weight.DeclWeight.{DeclWeight}
use Rattle.cascade.specs.declared.choice.Candidate.{Candidate}
use Rattle.cascade.specs.declared.decl.ReadDecl.{ReadDecl}
use Rattle.cascade.specs.Weights.{of_decl, at_place}
use Rattle.cascade.specs.Candidates.{Declared, slot_of}
use Rattle.cascade.specs.Choice.{candidate_in, views, better_of, offered, offered_at, longs_from, decls_from, longs_in}

place_small : (s : BoxSide) → place_of s < 4
place_small side.Top = omega arith
place_small side.Right = omega arith
place_small side.Bottom = omega arith
place_small side.Left = omega arith

-- each longhand has its place among all
pub number_small : (h : Longhand) → number_of h < longhand_count
number_small (longhand.Margin s) = let low = place_small s in omega (arith, low)
number_small (longhand.Padding s) = let low = place_small s in omega (arith, low)
number_small (longhand.BorderWidth s) = let low = place_small s in omega (arith, low)
number_small (longhand.BorderStyle s) = let low = place_small s in omega (arith, low)
number_small (longhand.BorderColor s) = let low = place_small s in omega (arith, low)
number_small h = omega arith

set-map : {A B : Type 0} (f : A → B) (xs : List A) (i : ℕ) (x : A) → map f (slice_set xs i x) ≡ slice_set (map f xs) i (f x)
set-map f [] i x = refl
set-map f (y ∷ xs) zero x = refl
set-map f (y ∷ xs) (suc i) x = ap (λ z. f y ∷ z) (set-map f xs i x)

-- a change by place is one more declaration
pub offer_is : (best : List (Option Candidate)) (c : Candidate) (r d : Option Candidate) → slot_of c.long.now < length best → option_map candidate_in r ≡ better_of (candidate_in c) (option_map candidate_in (get_or best (slot_of c.long.now) d))
    → views (slice_set best (slot_of c.long.now) r) ≡ offered (views best) (candidate_in c)
offer_is best c r d within is =
    let at : slice_get (views best) (slot_of c.long.now) ≡ Some (option_map candidate_in (get_or best (slot_of c.long.now) d)) = slice_get-map (option_map candidate_in) best (slot_of c.long.now) ∙ ap (option_map (option_map candidate_in)) (slice_get-get_or best (slot_of c.long.now) d within) in
    set-map (option_map candidate_in) best (slot_of c.long.now) r ∙ ap (slice_set (views best) (slot_of c.long.now)) is ∙ sym (ap (offered_at (views best) (candidate_in c)) at)

-- one more longhand of a declaration
pub longs_step : (best : List (Option Declared)) (w : DeclWeight) (longs : List Long) (i : ℕ) (d : Long) → i < length longs
    → fold offered (offered best (record { weight = at_place w i; long = get_or longs i d })) (longs_from w (i + 1) (drop (i + 1) longs)) ≡ fold offered best (longs_from w i (drop i longs))
longs_step best w longs i d h =
    let n : suc i ≡ i + 1 = omega arith in
    sym (ap (λ ls. fold offered best (longs_from w i ls)) (drop-cons longs i d h) ∙ ap (λ k. fold offered (offered best (record { weight = at_place w i; long = get_or longs i d })) (longs_from w (i + 1) (drop k longs))) n)

-- one more declaration of a rule
pub decls_step : (best : List (Option Declared)) (w : DeclWeight) (decls : List ReadDecl) (i : ℕ) (d : ReadDecl) → i < length decls
    → fold offered (fold offered best (longs_from (of_decl w (get_or decls i d).important i) 0 (get_or decls i d).longs)) (decls_from w (i + 1) (drop (i + 1) decls)) ≡ fold offered best (decls_from w i (drop i decls))
decls_step best w decls i d h =
    let n : suc i ≡ i + 1 = omega arith in
    sym (ap (λ ds. fold offered best (decls_from w i ds)) (drop-cons decls i d h) ∙ ap (λ k. fold offered best (longs_from (of_decl w (get_or decls i d).important i) 0 (get_or decls i d).longs ++ decls_from w (i + 1) (drop k decls))) n
    ∙ fold-append offered best (longs_from (of_decl w (get_or decls i d).important i) 0 (get_or decls i d).longs) (decls_from w (i + 1) (drop (i + 1) decls)))

longs-first : (o : Option Declared) (best : List (Option Declared)) → longs_in (o ∷ best) ≡ longs_in (o ∷ []) ++ longs_in best
longs-first None best = refl
longs-first (Some d) best = refl

-- one more longhand that won
pub won_step : (longs : List Long) (best : List (Option Candidate)) (i : ℕ) (d : Option Candidate) → i < length best
    → (longs ++ longs_in (option_map candidate_in (get_or best i d) ∷ [])) ++ longs_in (views (drop (i + 1) best)) ≡ longs ++ longs_in (views (drop i best))
won_step longs best i d h =
    let n : suc i ≡ i + 1 = omega arith in
    append_assoc longs (longs_in (option_map candidate_in (get_or best i d) ∷ [])) (longs_in (views (drop (i + 1) best)))
    ∙ ap (λ z. longs ++ z) (sym (ap (λ b. longs_in (views b)) (drop-cons best i d h) ∙ longs-first (option_map candidate_in (get_or best i d)) (views (drop (suc i) best)) ∙ ap (λ k. longs_in (option_map candidate_in (get_or best i d) ∷ []) ++ longs_in (views (drop k best))) n))
