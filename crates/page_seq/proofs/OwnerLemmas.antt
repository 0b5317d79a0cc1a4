-- The solid to which a place belongs stands on the page of the place.
use Rattle.std.proofs.Common.{◌≡◌, ◌==◌, ◌||◌, ℕ, suc, ◌+◌, ◌-◌, Bool, true, false, not, cond, List, [], ◌∷◌, ◌++◌, Option, None, Some, All, option_map, unwrap_or, length, slice_get, refl, sym, ◌∙◌, ap, subst, arith}
use Rattle.std.specs.Prelude.{◌&&◌}
use Rattle.std.specs.List.{list_any}
use Rattle.std.proofs.lemmas.Bool.Decides.{nat_tests}
use Rattle.std.proofs.lemmas.List.{append_assoc}
use Rattle.std.proofs.lemmas.List.Concat.{flat_map-cons}
use Rattle.std.proofs.lemmas.List.Elements.{All-nil, All-cons, All-append}
use Rattle.boxes.specs.declared.page.Page.{Page}
use Rattle.boxes.specs.declared.page.Placed.{Placed}
use Rattle.boxes.specs.declared.place.Position.{Position}
use Rattle.page_seq.specs.Owners.{Ascend, HaveOwners, IsOwner, holds, is_after, solids_of}
use Rattle.page_seq.specs.Owners.IsOwner.{of_place, of_next, of_last}
use Rattle.page_seq.specs.Places.{anchor_of, ends_after, first_place, has_end_after, has_solid, is_before, last_or_here, last_page, last_place, page_of, solid_at}

-- ---- the order of places
began : (at from end : Position) → is_before from end ≡ true → is_before at end ≡ false → is_before at from ≡ false
began at from end some passed = grind (arith, nat_tests)

later : (at from begin end : Position) → is_before at from ≡ true → is_before begin from ≡ false → is_before begin end ≡ true → (is_before at begin ≡ true) × (is_before at end ≡ true)
later at from begin end before low some = (grind (arith, nat_tests), grind (arith, nat_tests))

-- a solid that ends by a place neither holds it nor stands after it
record IsPassed (at : Position) (u : Placed) : Type 0 where
  held : holds at u ≡ false
  after : is_after at u ≡ false

passed_by : (at : Position) (u : Placed) → is_before u.at u.end ≡ true → ends_after at u ≡ false → IsPassed at u
passed_by at u some ends =
    let b = began at u.at u.end some ends in
    record { held = ap (λ (x : Bool). not x && is_before at u.end) b ∙ ends; after = b }

-- one that stands after a place doesn't hold it
after_holds : (at : Position) (u : Placed) → is_after at u ≡ true → holds at u ≡ false
after_holds at u is = ap (λ (x : Bool). not x && is_before at u.end) is

held_by : (at : Position) (u : Placed) → is_after at u ≡ false → ends_after at u ≡ true → holds at u ≡ true
held_by at u isnt ends = ap (λ (x : Bool). not x && is_before at u.end) isnt ∙ ends

-- ---- solids that ascend
all_passed : (at from : Position) (solids : List Placed) → Ascend from solids → All (λ u. ends_after at u ≡ false) solids → All (IsPassed at) solids
all_passed at from [] up ends = All-nil (IsPassed at)
all_passed at from (s ∷ solids) up ends = All-cons (IsPassed at) s solids (passed_by at s up.1 (ends 0 s (omega arith))) (all_passed at s.end solids up.2 (λ k d l. ends (suc k) d (omega arith)))

all_after : (at from : Position) (solids : List Placed) → Ascend from solids → is_before at from ≡ true → All (λ u. holds at u ≡ false) solids
all_after at from [] up low = All-nil (λ (u : Placed). holds at u ≡ false)
all_after at from (s ∷ solids) up low =
    let l = later at from s.at s.end low up.0 up.1 in
    All-cons (λ (u : Placed). holds at u ≡ false) s solids (after_holds at s l.0) (all_after at s.end solids up.2 l.1)

-- the parts of solids that ascend do too
record Parts (from : Position) (front : List Placed) (s : Placed) (back : List Placed) : Type 0 where
  before : Ascend from front
  some : is_before s.at s.end ≡ true
  behind : Ascend s.end back

parts : (from : Position) (front : List Placed) (s : Placed) (back : List Placed) → Ascend from (front ++ s ∷ back) → Parts from front s back
parts from [] s back up = record { before = tt; some = up.1; behind = up.2 }
parts from (u ∷ front) s back up = let p = parts u.end front s back up.2 in record { before = (up.0, up.1, p.before); some = p.some; behind = p.behind }

-- the first solid that ends after a place
owner_of : (at from : Position) (front : List Placed) (s : Placed) (back : List Placed) → Ascend from (front ++ s ∷ back) → All (λ u. ends_after at u ≡ false) front → ends_after at s ≡ true → IsOwner at front s back
owner_of at from front s back up none ends = by (is_after at s) refl
  where
    p : Parts from front s back
    p = parts from front s back up

    passed : All (IsPassed at) front
    passed = all_passed at from front p.before none

    by : (b : Bool) → is_after at s ≡ b → IsOwner at front s back
    by false e = of_place (held_by at s e ends)
    by true e = of_next
        (All-append (λ (u : Placed). holds at u ≡ false) front (s ∷ back) (λ k d l. (passed k d l).held)
        (All-cons (λ (u : Placed). holds at u ≡ false) s back (after_holds at s e) (all_after at s.end back p.behind ends)))
        e (λ k d l. (passed k d l).after)

-- the last solid, where none ends after a place
last_owner : (at from : Position) (front : List Placed) (s : Placed) → Ascend from (front ++ s ∷ []) → All (λ u. ends_after at u ≡ false) (front ++ s ∷ []) → IsOwner at front s []
last_owner at from front s up none =
    let passed = all_passed at from (front ++ s ∷ []) up none in
    of_last (λ k d l. (passed k d l).held) (λ k d l. (passed k d l).after) refl

-- ---- the first of a list that passes
record Cuts {X : Type 0} (p : X → Bool) (xs : List X) : Type 0 where
  front : List X
  one : X
  back : List X
  place : ℕ
  first : first_place p xs ≡ Some place
  at : slice_get xs place ≡ Some one
  whole : xs ≡ front ++ one ∷ back
  none : All (λ x. p x ≡ false) front
  passes : p one ≡ true

cut_at : {X : Type 0} (p : X → Bool) (xs : List X) → list_any p xs ≡ true → Cuts p xs
cut_at p [] is = absurd (cc)
cut_at {X} p (x ∷ xs) is = by (λ h. cut_at p xs h) (p x) refl is
  where
    by : (list_any p xs ≡ true → Cuts p xs) → (b : Bool) → p x ≡ b → (b || list_any p xs) ≡ true → Cuts p (x ∷ xs)
    by rest true e h = record { front = []; one = x; back = xs; place = 0; first = rw e refl; at = refl; whole = refl; none = All-nil (λ (y : X). p y ≡ false); passes = e }
    by rest false e h =
        let c = rest h in
        record {
          front = x ∷ c.front;
          one = c.one;
          back = c.back;
          place = suc c.place;
          first = rw e (ap (λ (o : Option ℕ). option_map suc o) c.first);
          at = c.at;
          whole = ap (λ (ys : List X). x ∷ ys) c.whole;
          none = All-cons (λ (y : X). p y ≡ false) x c.front e c.none;
          passes = c.passes;
        }

none_of : {X : Type 0} (p : X → Bool) (xs : List X) → list_any p xs ≡ false → (first_place p xs ≡ None) × All (λ x. p x ≡ false) xs
none_of {X} p [] is = (refl, All-nil (λ (y : X). p y ≡ false))
none_of {X} p (x ∷ xs) is = by (λ h. none_of p xs h) (p x) refl is
  where
    by : (list_any p xs ≡ false → (first_place p xs ≡ None) × All (λ y. p y ≡ false) xs) → (b : Bool) → p x ≡ b → (b || list_any p xs) ≡ false → (first_place p (x ∷ xs) ≡ None) × All (λ y. p y ≡ false) (x ∷ xs)
    by rest true e h = absurd (cc)
    by rest false e h = let n = rest h in (rw e (ap (λ (o : Option ℕ). option_map suc o) n.0), All-cons (λ (y : X). p y ≡ false) x xs e n.1)

-- ---- the solid on the page of a place, where one ends after it
record Stands (pages : List Page) (at : Position) (number : ℕ) : Type 0 where
  page : Page
  one : Placed
  front : List Placed
  back : List Placed
  has : slice_get pages number ≡ Some page
  on : slice_get page.solids (solid_at page at) ≡ Some one
  whole : solids_of pages ≡ front ++ one ∷ back

record First (pages : List Page) (at : Position) (number : ℕ) : Type 0 where
  stands : Stands pages at number
  none : All (λ u. ends_after at u ≡ false) stands.front
  ends : ends_after at stands.one ≡ true

first_number : (at : Position) (pages : List Page) (number : ℕ) → first_place (has_end_after at) pages ≡ Some number → First pages at number
first_number at [] number e = absurd (cc)
first_number at (p ∷ pages) number e = by (λ m f. first_number at pages m f) (has_end_after at p) refl
  where
    joined : solids_of (p ∷ pages) ≡ p.solids ++ solids_of pages
    joined = flat_map-cons (λ (q : Page). q.solids) p pages

    by : ((m : ℕ) → first_place (has_end_after at) pages ≡ Some m → First pages at m) → (b : Bool) → has_end_after at p ≡ b → First (p ∷ pages) at number
    by rest true is =
        let c = cut_at (ends_after at) p.solids is in
        let first : Some 0 ≡ Some number = sym (ap (λ (b : Bool). cond b (Some 0) (option_map suc (first_place (has_end_after at) pages))) is) ∙ e in
        let zero_is : 0 ≡ number = cc in
        let place : solid_at p at ≡ c.place = ap (λ (o : Option ℕ). unwrap_or o (length p.solids - 1)) c.first in
        subst (First (p ∷ pages) at) zero_is (record {
          stands = record {
            page = p;
            one = c.one;
            front = c.front;
            back = c.back ++ solids_of pages;
            has = refl;
            on = ap (slice_get p.solids) place ∙ c.at;
            whole = joined ∙ (ap (λ (xs : List Placed). xs ++ solids_of pages) c.whole ∙ append_assoc c.front (c.one ∷ c.back) (solids_of pages));
          };
          none = c.none;
          ends = c.passes;
        })
    by rest false is = later_by (first_place (has_end_after at) pages) refl (sym (ap (λ (b : Bool). cond b (Some 0) (option_map suc (first_place (has_end_after at) pages))) is) ∙ e)
      where
        later_by : (o : Option ℕ) → first_place (has_end_after at) pages ≡ o → option_map suc o ≡ Some number → First (p ∷ pages) at number
        later_by None f g = absurd (cc)
        later_by (Some m) f g =
            let next : suc m ≡ number = cc in
            let r = rest m f in
            let n = none_of (ends_after at) p.solids is in
            subst (First (p ∷ pages) at) next (record {
              stands = record {
                page = r.stands.page;
                one = r.stands.one;
                front = p.solids ++ r.stands.front;
                back = r.stands.back;
                has = r.stands.has;
                on = r.stands.on;
                whole = joined ∙ (ap (λ (xs : List Placed). p.solids ++ xs) r.stands.whole ∙ sym (append_assoc p.solids r.stands.front (r.stands.one ∷ r.stands.back)));
              };
              none = All-append (λ (u : Placed). ends_after at u ≡ false) p.solids r.stands.front n.1 r.none;
              ends = r.ends;
            })

-- ---- the last solid, where none ends after the place
record Last (pages : List Page) (at : Position) (number : ℕ) : Type 0 where
  stands : Stands pages at number
  end : stands.back ≡ []

-- the last of some elements
record Ends {X : Type 0} (xs : List X) : Type 0 where
  front : List X
  one : X
  at : slice_get xs (length xs - 1) ≡ Some one
  whole : xs ≡ front ++ one ∷ []

later_at : {X : Type 0} (x y : X) (ys : List X) (one : X) → slice_get (y ∷ ys) (length (y ∷ ys) - 1) ≡ Some one → slice_get (x ∷ y ∷ ys) (length (x ∷ y ∷ ys) - 1) ≡ Some one
later_at x y ys one at =
    let here : length (y ∷ ys) - 1 ≡ length ys = omega arith in
    let there : length (x ∷ y ∷ ys) - 1 ≡ suc (length ys) = omega arith in
    ap (λ (n : ℕ). slice_get (x ∷ y ∷ ys) n) there ∙ (ap (λ (n : ℕ). slice_get (y ∷ ys) n) (sym here) ∙ at)

ends_of : {X : Type 0} (x : X) (xs : List X) → Ends (x ∷ xs)
ends_of x [] = record { front = []; one = x; at = refl; whole = refl }
ends_of {X} x (y ∷ ys) = let e = ends_of y ys in record { front = x ∷ e.front; one = e.one; at = later_at x y ys e.one e.at; whole = ap (λ (zs : List X). x ∷ zs) e.whole }

none_ends : (at : Position) (pages : List Page) → first_place (has_end_after at) pages ≡ None → All (λ u. ends_after at u ≡ false) (solids_of pages)
none_ends at [] e = All-nil (λ (u : Placed). ends_after at u ≡ false)
none_ends at (p ∷ pages) e = by (λ f. none_ends at pages f) (has_end_after at p) refl (first_place (has_end_after at) pages) refl e
  where
    by : (first_place (has_end_after at) pages ≡ None → All (λ u. ends_after at u ≡ false) (solids_of pages)) → (b : Bool) → has_end_after at p ≡ b → (o : Option ℕ) → first_place (has_end_after at) pages ≡ o → cond b (Some 0) (option_map suc o) ≡ None → All (λ u. ends_after at u ≡ false) (solids_of (p ∷ pages))
    by more true is o f g = absurd (cc)
    by more false is (Some m) f g = absurd (cc)
    by more false is None f g =
        let n = none_of (ends_after at) p.solids is in
        subst (All (λ u. ends_after at u ≡ false)) (sym (flat_map-cons (λ (q : Page). q.solids) p pages)) (All-append (λ (u : Placed). ends_after at u ≡ false) p.solids (solids_of pages) n.1 (more f))

some_solid : (s : Placed) (solids : List Placed) → not (length (s ∷ solids) == 0) ≡ true
some_solid s solids = grind (arith, nat_tests)

no_solids : (pages : List Page) → last_place has_solid pages ≡ None → solids_of pages ≡ []
no_solids [] e = refl
no_solids (p ∷ pages) e = by (λ f. no_solids pages f) p.solids refl (last_place has_solid pages) refl e
  where
    by : (last_place has_solid pages ≡ None → solids_of pages ≡ []) → (solids : List Placed) → p.solids ≡ solids → (o : Option ℕ) → last_place has_solid pages ≡ o → last_or_here (not (length p.solids == 0)) o ≡ None → solids_of (p ∷ pages) ≡ []
    by rest solids is (Some k) f g = absurd (cc)
    by rest [] is None f g = flat_map-cons (λ (q : Page). q.solids) p pages ∙ (ap (λ (xs : List Placed). xs ++ solids_of pages) is ∙ rest f)
    by rest (s ∷ solids) is None f g = absurd (let h : last_or_here true None ≡ None = ap (λ (b : Bool). last_or_here b None) (sym (some_solid s solids)) ∙ (ap (λ (xs : List Placed). last_or_here (not (length xs == 0)) None) (sym is) ∙ g) in cc)

last_number : (at : Position) (pages : List Page) (number : ℕ) → last_place has_solid pages ≡ Some number → All (λ u. ends_after at u ≡ false) (solids_of pages) → Last pages at number
last_number at [] number e none = absurd (cc)
last_number at (p ∷ pages) number e none = by (λ m f more. last_number at pages m f more) (last_place has_solid pages) refl e
  where
    joined : solids_of (p ∷ pages) ≡ p.solids ++ solids_of pages
    joined = flat_map-cons (λ (q : Page). q.solids) p pages

    both : All (λ u. ends_after at u ≡ false) (p.solids ++ solids_of pages)
    both = subst (All (λ u. ends_after at u ≡ false)) joined none

    here_by : (solids : List Placed) → p.solids ≡ solids → last_place has_solid pages ≡ None → last_or_here (not (length p.solids == 0)) None ≡ Some number → Last (p ∷ pages) at number
    here_by [] is f g = absurd (let h : last_or_here (not (length {A = Placed} [] == 0)) None ≡ Some number = ap (λ (xs : List Placed). last_or_here (not (length xs == 0)) None) (sym is) ∙ g in cc)
    here_by (s ∷ solids) is f g =
        let h : last_or_here true None ≡ Some number = ap (λ (b : Bool). last_or_here b None) (sym (some_solid s solids)) ∙ (ap (λ (xs : List Placed). last_or_here (not (length xs == 0)) None) (sym is) ∙ g) in
        let zero_is : 0 ≡ number = cc in
        let c : Ends p.solids = subst Ends (sym is) (ends_of s solids) in
        let empty = no_solids pages f in
        let mine : All (λ u. ends_after at u ≡ false) p.solids = front_of p.solids (solids_of pages) both in
        let place : solid_at p at ≡ length p.solids - 1 = ap (λ (o : Option ℕ). unwrap_or o (length p.solids - 1)) (none_of (ends_after at) p.solids (any_none p.solids mine)).0 in
        subst (Last (p ∷ pages) at) zero_is (record {
          stands = record { page = p; one = c.one; front = c.front; back = []; has = refl; on = ap (slice_get p.solids) place ∙ c.at; whole = joined ∙ (ap (λ (xs : List Placed). p.solids ++ xs) empty ∙ (append_nil p.solids ∙ c.whole)) };
          end = refl;
        })
      where
        front_of : (xs ys : List Placed) → All (λ u. ends_after at u ≡ false) (xs ++ ys) → All (λ u. ends_after at u ≡ false) xs
        front_of [] ys all = All-nil (λ (u : Placed). ends_after at u ≡ false)
        front_of (x ∷ xs) ys all = All-cons (λ (u : Placed). ends_after at u ≡ false) x xs (all 0 x (omega arith)) (front_of xs ys (λ k d l. all (suc k) d (omega arith)))

        any_none : (xs : List Placed) → All (λ u. ends_after at u ≡ false) xs → list_any (ends_after at) xs ≡ false
        any_none [] all = refl
        any_none (x ∷ xs) all = rw (all 0 x (omega arith)) (any_none xs (λ k d l. all (suc k) d (omega arith)))

        append_nil : (xs : List Placed) → xs ++ [] ≡ xs
        append_nil [] = refl
        append_nil (x ∷ xs) = ap (λ (zs : List Placed). x ∷ zs) (append_nil xs)

    by : ((m : ℕ) → last_place has_solid pages ≡ Some m → All (λ u. ends_after at u ≡ false) (solids_of pages) → Last pages at m) → (o : Option ℕ) → last_place has_solid pages ≡ o → last_or_here (not (length p.solids == 0)) o ≡ Some number → Last (p ∷ pages) at number
    by rest None f g = here_by p.solids refl f g
    by rest (Some m) f g =
        let next : suc m ≡ number = cc in
        let r = rest m f (behind_of p.solids (solids_of pages) both) in
        subst (Last (p ∷ pages) at) next (record {
          stands = record {
            page = r.stands.page;
            one = r.stands.one;
            front = p.solids ++ r.stands.front;
            back = r.stands.back;
            has = r.stands.has;
            on = r.stands.on;
            whole = joined ∙ (ap (λ (xs : List Placed). p.solids ++ xs) r.stands.whole ∙ sym (append_assoc p.solids r.stands.front (r.stands.one ∷ r.stands.back)));
          };
          end = r.end;
        })
      where
        behind_of : (xs ys : List Placed) → All (λ u. ends_after at u ≡ false) (xs ++ ys) → All (λ u. ends_after at u ≡ false) ys
        behind_of [] ys all = all
        behind_of (x ∷ xs) ys all = behind_of xs ys (λ k d l. all (suc k) d (omega arith))

-- ---- the law
pub have_owners : HaveOwners
have_owners t pages start at up some = by (first_place (has_end_after (anchor_of t at)) pages) refl
  where
    a : Position
    a = anchor_of t at

    Owned : ℕ → Type 0
    Owned number = (page : Page) × (s : Placed) × (front : List Placed) × (back : List Placed) × (slice_get pages number ≡ Some page) × (slice_get page.solids (solid_at page (anchor_of t at)) ≡ Some s) × (solids_of pages ≡ front ++ s ∷ back) × IsOwner (anchor_of t at) front s back

    by : (o : Option ℕ) → first_place (has_end_after (anchor_of t at)) pages ≡ o → Owned (page_of t pages at)
    by (Some number) e =
        let f = first_number (anchor_of t at) pages number e in
        let s = f.stands in
        let rises : Ascend start (s.front ++ s.one ∷ s.back) = subst (Ascend start) s.whole up in
        subst Owned (sym (ap (λ (o : Option ℕ). unwrap_or o (last_page pages)) e)) (s.page, s.one, s.front, s.back, s.has, s.on, s.whole, owner_of (anchor_of t at) start s.front s.one s.back rises f.none f.ends)
    by None e = last_by (last_place has_solid pages) refl
      where
        none : All (λ u. ends_after (anchor_of t at) u ≡ false) (solids_of pages)
        none = none_ends (anchor_of t at) pages e

        last_by : (o : Option ℕ) → last_place has_solid pages ≡ o → Owned (page_of t pages at)
        last_by None f = absurd (let z = ap (λ (xs : List Placed). length xs) (no_solids pages f) in omega arith)
        last_by (Some number) f =
            let l = last_number (anchor_of t at) pages number f none in
            let s = l.stands in
            let whole : solids_of pages ≡ s.front ++ s.one ∷ [] = s.whole ∙ ap (λ (xs : List Placed). s.front ++ s.one ∷ xs) l.end in
            let rises : Ascend start (s.front ++ s.one ∷ []) = subst (Ascend start) whole up in
            let passed = subst (All (λ u. ends_after (anchor_of t at) u ≡ false)) whole none in
            let number_is : page_of t pages at ≡ number = ap (λ (o : Option ℕ). unwrap_or o (last_page pages)) e ∙ ap (λ (o : Option ℕ). unwrap_or o 0) f in
            subst Owned (sym number_is) (s.page, s.one, s.front, [], s.has, s.on, whole, last_owner (anchor_of t at) start s.front s.one rises passed)
