-- The ends of pages, and the page of a place by them.
use Rattle.std.proofs.Common.{◌≡◌, ◌<◌, ◌≤◌, ◌+◌, ◌-◌, ◌||◌, ℕ, zero, suc, Bool, true, false, not, cond, List, [], ◌∷◌, ◌++◌, Option, None, Some, is_some, option_map, length, take, slice_get, get_or, refl, sym, ◌∙◌, ap, subst, inl, inr, ◌⊎◌, add-zero, arith}
use Rattle.std.specs.List.{list_any}
use Rattle.std.specs.Option.{option_or}
use Rattle.std.proofs.lemmas.Bool.Decides.{nat_tests}
use Rattle.std.proofs.lemmas.List.Folds.{list_any_more}
use Rattle.std.specs.List.Sorted.{IsPartitionPoint, IsPartitionedBy}
use Rattle.std.proofs.lemmas.Option.{slice_get-get_or, slice_get_within}
use Rattle.std.proofs.lemmas.Bool.{not-true}
use Rattle.bk_num.proofs.ListLemmas.{get-push}
use Rattle.boxes.specs.declared.page.Page.{Page}
use Rattle.boxes.specs.declared.page.Placed.{Placed}
use Rattle.boxes.specs.declared.place.Position.{Position}
use Rattle.page_seq.specs.Places.{NeverFall, ends_after, first_place, has_end_after, is_before}
use Rattle.page_seq.proofs.PlaceLemmas.{first_place-push, first_place_absent, first_place_is, first_place_more}

-- ---- the later of two places

pub later_by : (at a b : Position) → is_before at (cond (is_before a b) b a) ≡ (is_before at a || is_before at b)
later_by at a b = by (is_before a b) refl
  where
    by : (h : Bool) → is_before a b ≡ h → is_before at (cond h b a) ≡ (is_before at a || is_before at b)
    by true e = grind (arith, nat_tests)
    by false e = grind (arith, nat_tests)

or_step : (a b r s : Bool) → a ≡ (b || r) → (a || s) ≡ (b || (r || s))
or_step a b r s e = by b r e
  where
    by : (b r : Bool) → a ≡ (b || r) → (a || s) ≡ (b || (r || s))
    by true r e = rw e refl
    by false true e = rw e refl
    by false false e = rw e refl

-- one more solid
pub end_more : (at from end next : Position) (solids : List Placed) (i : ℕ) (d : Placed) → i < length solids → is_before at end ≡ (is_before at from || list_any (ends_after at) (take i solids)) → next ≡ cond (is_before end (get_or solids i d).end) (get_or solids i d).end end → is_before at next ≡ (is_before at from || list_any (ends_after at) (take (i + 1) solids))
end_more at from end next solids i d h is e =
    let s = get_or solids i d in
    ap (is_before at) e ∙ (later_by at end s.end
    ∙ (or_step (is_before at end) (is_before at from) (list_any (ends_after at) (take i solids)) (is_before at s.end) is
    ∙ ap (λ (b : Bool). is_before at from || b) (sym (list_any_more (ends_after at) solids i d h))))

-- ---- the ends of pages

is_some-map : (o : Option ℕ) → is_some (option_map suc o) ≡ is_some o
is_some-map None = refl
is_some-map (Some k) = refl

any_from_first : {X : Type 0} (p : X → Bool) (xs : List X) → is_some (first_place p xs) ≡ list_any p xs
any_from_first p [] = refl
any_from_first p (x ∷ xs) = by (p x) (any_from_first p xs)
  where
    by : (b : Bool) → is_some (first_place p xs) ≡ list_any p xs → is_some (cond b (Some 0) (option_map suc (first_place p xs))) ≡ (b || list_any p xs)
    by true e = refl
    by false e = is_some-map (first_place p xs) ∙ e

-- one more page
pub first_more : (at end next : Position) (ends : List Position) (pages : List Page) (i : ℕ) (page : Page) → i < length pages → page ≡ get_or pages i page → length ends ≡ i
    → first_place (is_before at) ends ≡ first_place (has_end_after at) (take i pages) → is_before at end ≡ list_any (has_end_after at) (take i pages) → is_before at next ≡ (is_before at end || has_end_after at page)
    → first_place (is_before at) (ends ++ next ∷ []) ≡ first_place (has_end_after at) (take (i + 1) pages)
first_more at end next ends pages i page h read count same reach is =
    first_place-push (is_before at) ends next
    ∙ (by (first_place (is_before at) ends) (has_end_after at page) (is_before at next) (is_before at end) (ap is_some same ∙ (any_from_first (has_end_after at) (take i pages) ∙ sym reach)) is
    ∙ (ap (λ (o : Option ℕ). option_or o (cond (has_end_after at page) (Some (length ends)) None)) same
    ∙ (ap (λ n. option_or (first_place (has_end_after at) (take i pages)) (cond (has_end_after at page) (Some n) None)) count
    ∙ (ap (λ (p : Page). option_or (first_place (has_end_after at) (take i pages)) (cond (has_end_after at p) (Some i) None)) read ∙ sym (first_place_more (has_end_after at) pages i page h)))))
  where
    by : (o : Option ℕ) (b n e : Bool) → is_some o ≡ e → n ≡ (e || b) → option_or o (cond n (Some (length ends)) None) ≡ option_or o (cond b (Some (length ends)) None)
    by (Some k) b n e s f = refl
    by None b n e s f = rw (f, ← s) refl

pub reach_more : (at end next : Position) (pages : List Page) (i : ℕ) (page : Page) → i < length pages → page ≡ get_or pages i page → is_before at end ≡ list_any (has_end_after at) (take i pages) → is_before at next ≡ (is_before at end || has_end_after at page) → is_before at next ≡ list_any (has_end_after at) (take (i + 1) pages)
reach_more at end next pages i page h read reach is =
    is ∙ (ap (λ (b : Bool). b || has_end_after at page) reach ∙ (ap (λ (p : Page). list_any (has_end_after at) (take i pages) || has_end_after at p) read ∙ sym (list_any_more (has_end_after at) pages i page h)))

-- ---- ends never fall

pub before_self : (at : Position) → is_before at at ≡ false
before_self at = grind (arith, nat_tests)

-- the next end is not before the one that it takes the place of
no_lower : (end next : Position) (b : Bool) → is_before next next ≡ (is_before next end || b) → is_before next end ≡ false
no_lower end next b e = by (is_before next end) (sym (before_self next) ∙ e)
  where
    by : (h : Bool) → false ≡ (h || b) → h ≡ false
    by true f = absurd (cc)
    by false f = refl

pub before_trans : (a b c : Position) → is_before b a ≡ false → is_before c b ≡ false → is_before c a ≡ false
before_trans a b c e f = grind (arith, nat_tests)

-- no end is after the furthest one
abbrev pub NoneAfter : Position → List Position → Type 0
NoneAfter end ends = (k : ℕ) (a : Position) → slice_get ends k ≡ Some a → is_before end a ≡ false

pub none_after_more : (end next : Position) (b : Bool) (ends : List Position) → NoneAfter end ends → is_before next next ≡ (is_before next end || b) → NoneAfter next (ends ++ next ∷ [])
none_after_more end next b ends none e k a g = by (get-push ends next a k g)
  where
    by : ((k ≡ length ends) × (a ≡ next)) ⊎ (slice_get ends k ≡ Some a) → is_before next a ≡ false
    by (inl (at, same)) = rw same (before_self next)
    by (inr old) = before_trans a end next (none k a old) (no_lower end next b e)

pub never_fall_more : (end next : Position) (b : Bool) (ends : List Position) → NeverFall ends → NoneAfter end ends → is_before next next ≡ (is_before next end || b) → NeverFall (ends ++ next ∷ [])
never_fall_more end next b ends order none e k a c g h = by (get-push ends next c (suc k) h) (get-push ends next a k g)
  where
    by : ((suc k ≡ length ends) × (c ≡ next)) ⊎ (slice_get ends (suc k) ≡ Some c) → ((k ≡ length ends) × (a ≡ next)) ⊎ (slice_get ends k ≡ Some a) → is_before c a ≡ false
    by (inl (at, same)) (inl (here, other)) = absurd (omega arith)
    by (inl (at, same)) (inr old) = rw same (before_trans a end next (none k a old) (no_lower end next b e))
    by (inr old) (inl (here, other)) = let w = slice_get_within ends (suc k) c old in absurd (omega arith)
    by (inr old) (inr older) = order k a c older old

-- ---- the first end after a place

no_later_far : (ends : List Position) → NeverFall ends → (n i : ℕ) (d : Position) → i + n < length ends → is_before (get_or ends (i + n) d) (get_or ends i d) ≡ false
no_later_far ends order zero i d h = rw add-zero (before_self (get_or ends i d))
no_later_far ends order (suc n) i d h =
    let e : i + suc n ≡ suc (i + n) = omega arith in
    let l : i + n < length ends = omega arith in
    let m : suc (i + n) < length ends = omega arith in
    rw e (before_trans (get_or ends i d) (get_or ends (i + n) d) (get_or ends (suc (i + n)) d) (no_later_far ends order n i d l) (order (i + n) (get_or ends (i + n) d) (get_or ends (suc (i + n)) d) (slice_get-get_or ends (i + n) d l) (slice_get-get_or ends (suc (i + n)) d m)))

pub before_later : (at a b : Position) → is_before b a ≡ false → is_before at a ≡ true → is_before at b ≡ true
before_later at a b e f = grind (arith, nat_tests)

-- ends that are passed by a place stand before those that are not
pub parted : (ends : List Position) (at : Position) → NeverFall ends → IsPartitionedBy (λ e. not (is_before at e)) ends
parted ends at order i j d low h passed =
    let e : i + (j - i) ≡ j = omega arith in
    let l : i + (j - i) < length ends = omega arith in
    let far : is_before (get_or ends j d) (get_or ends i d) ≡ false = subst (λ n. is_before (get_or ends n d) (get_or ends i d) ≡ false) e (no_later_far ends order (j - i) i d l) in
    by (is_before at (get_or ends i d)) refl far
  where
    by : (b : Bool) → is_before at (get_or ends i d) ≡ b → is_before (get_or ends j d) (get_or ends i d) ≡ false → not (is_before at (get_or ends i d)) ≡ true
    by true e far = let f = before_later at (get_or ends i d) (get_or ends j d) far e in absurd (cc)
    by false e far = rw e refl

from_not_false : (b : Bool) → not b ≡ false → b ≡ true
from_not_false true e = refl
from_not_false false e = absurd (cc)

abbrev pub IsFirstAfter : List Position → Position → ℕ → Type 0
IsFirstAfter ends at k = IsPartitionPoint (λ e. not (is_before at e) ≡ true) (λ e. not (is_before at e) ≡ false) ends k

pub first_found : (ends : List Position) (at : Position) (k : ℕ) → IsFirstAfter ends at k → k < length ends → Some k ≡ first_place (is_before at) ends
first_found ends at k point h =
    let d : Position = record { event = 0; offset = 0 } in
    sym (first_place_is (is_before at) ends k d h (from_not_false (is_before at (get_or ends k d)) (point.1 k d (omega arith) h)) (λ j l. not-true (is_before at (get_or ends j d)) (point.0 j d (omega arith) l)))

pub none_found : (ends : List Position) (at : Position) (k : ℕ) → IsFirstAfter ends at k → length ends ≤ k → None ≡ first_place (is_before at) ends
none_found ends at k point h = sym (first_place_absent (is_before at) ends (λ j d l. not-true (is_before at (get_or ends j d)) (point.0 j d (omega arith) (omega arith))))
