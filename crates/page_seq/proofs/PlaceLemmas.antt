-- The first and the last place that pass, the order of places, and the page of a place.
use Rattle.std.proofs.Common.{◌≡◌, ◌<◌, ◌≤◌, ℕ, zero, suc, ◌+◌, ◌==◌, ◌||◌, nat_le, Bool, true, false, not, cond, List, [], ◌∷◌, ◌++◌, Option, None, Some, option_map, unwrap_or, length, map, take, slice_get, get_or, pos, refl, sym, ◌∙◌, ap, subst, inl, inr, ◌⊎◌, add-one, arith}
use Rattle.std.specs.List.{list_any}
use Rattle.std.specs.Option.{option_or}
use Rattle.std.proofs.lemmas.Bool.{cases_lt}
use Rattle.std.proofs.lemmas.List.{get_or_default, take_more, map-append, length-take-le}
use Rattle.std.proofs.lemmas.Option.{slice_get-get_or}
use Rattle.std.proofs.lemmas.Bool.Decides.{nat_tests}
use Rattle.boxes.specs.Tree.{Tree}
use Rattle.boxes.specs.declared.frames.PageKind.TheVariants.{Flow}
use Rattle.boxes.specs.declared.page.Page.{Page}
use Rattle.boxes.specs.declared.page.Placed.{Placed}
use Rattle.boxes.specs.declared.place.Position.{Position}
use Rattle.page_seq.specs.Places.{is_before, past_text, text_length, anchor_of, ends_after, has_end_after, has_solid, first_place, last_or_here, last_place, last_page, page_at, page_of, NeverFall}

-- ---- the first and the last element that passes

-- the first place of a list with one more element before it
abbrev first_with : Bool → Option ℕ → Option ℕ
first_with b o = cond b (Some 0) (option_map suc o)

with_none : (b : Bool) (o : Option ℕ) → first_with b o ≡ None → (b ≡ false) × (o ≡ None)
with_none true o e = absurd (cc)
with_none false None e = (refl, refl)
with_none false (Some i) e = absurd (cc)

with_some : (b : Bool) (o : Option ℕ) (i : ℕ) → first_with b o ≡ Some i → ((b ≡ true) × (i ≡ 0)) ⊎ ((b ≡ false) × ((j : ℕ) × (o ≡ Some j) × (i ≡ suc j)))
with_some true o i e = inl (refl, cc)
with_some false None i e = absurd (cc)
with_some false (Some j) i e = inr (refl, (j, refl, cc))

pub first_place_none : {X : Type 0} (p : X → Bool) (xs : List X) → first_place p xs ≡ None → (k : ℕ) (d : X) → k < length xs → p (get_or xs k d) ≡ false
first_place_none p [] e k d h = absurd (omega arith)
first_place_none p (x ∷ xs) e zero d h = (with_none (p x) (first_place p xs) e).0
first_place_none p (x ∷ xs) e (suc k) d h = first_place_none p xs (with_none (p x) (first_place p xs) e).1 k d (omega arith)

pub record IsFirst {X : Type 0} (p : X → Bool) (xs : List X) (d : X) (i : ℕ) : Type 0 where
  pub within : i < length xs
  pub passes : p (get_or xs i d) ≡ true
  pub before : (k : ℕ) → k < i → p (get_or xs k d) ≡ false

first_here : {X : Type 0} (p : X → Bool) (x : X) (xs : List X) (d : X) (i : ℕ) → p x ≡ true → i ≡ 0 → IsFirst p (x ∷ xs) d i
first_here p x xs d zero is e = record { within = omega arith; passes = is; before = λ k l. absurd (omega arith) }
first_here p x xs d (suc i) is e = absurd (omega arith)

first_later : {X : Type 0} (p : X → Bool) (x : X) (xs : List X) (d : X) (j : ℕ) → p x ≡ false → IsFirst p xs d j → IsFirst p (x ∷ xs) d (suc j)
first_later {X} p x xs d j isnt f = record { within = let w = f.within in omega arith; passes = f.passes; before = earlier }
  where
    earlier : (k : ℕ) → k < suc j → p (get_or (x ∷ xs) k d) ≡ false
    earlier zero l = isnt
    earlier (suc k) l = f.before k (omega arith)

first_by : {X : Type 0} (p : X → Bool) (x : X) (xs : List X) (d : X) (i : ℕ) → ((j : ℕ) → first_place p xs ≡ Some j → IsFirst p xs d j) → ((p x ≡ true) × (i ≡ 0)) ⊎ ((p x ≡ false) × ((j : ℕ) × (first_place p xs ≡ Some j) × (i ≡ suc j))) → IsFirst p (x ∷ xs) d i
first_by p x xs d i rest (inl here) = first_here p x xs d i here.0 here.1
first_by {X} p x xs d i rest (inr there) = subst (λ n. IsFirst p (x ∷ xs) d n) (sym there.1.2) (first_later p x xs d there.1.0 there.0 (rest there.1.0 there.1.1))

pub first_place_some : {X : Type 0} (p : X → Bool) (xs : List X) (d : X) (i : ℕ) → first_place p xs ≡ Some i → IsFirst p xs d i
first_place_some p [] d i e = absurd (cc)
first_place_some p (x ∷ xs) d i e = first_by p x xs d i (λ j f. first_place_some p xs d j f) (with_some (p x) (first_place p xs) i e)

pub first_place_is : {X : Type 0} (p : X → Bool) (xs : List X) (k : ℕ) (d : X) → k < length xs → p (get_or xs k d) ≡ true → ((j : ℕ) → j < k → p (get_or xs j d) ≡ false) → first_place p xs ≡ Some k
first_place_is p [] k d h is before = absurd (omega arith)
first_place_is p (x ∷ xs) zero d h is before = rw is refl
first_place_is p (x ∷ xs) (suc k) d h is before =
    let isnt : p x ≡ false = before 0 (omega arith) in
    rw isnt (ap (λ (o : Option ℕ). option_map suc o) (first_place_is p xs k d (omega arith) is (λ j l. before (suc j) (omega arith))))

-- the first place of a list with one more element at its end
first_step : (b here : Bool) (n : ℕ) (o : Option ℕ) → first_with b (option_or o (cond here (Some n) None)) ≡ option_or (first_with b o) (cond here (Some (suc n)) None)
first_step true here n o = refl
first_step false here n (Some i) = refl
first_step false true n None = refl
first_step false false n None = refl

pub first_place-push : {X : Type 0} (p : X → Bool) (xs : List X) (x : X) → first_place p (xs ++ x ∷ []) ≡ option_or (first_place p xs) (cond (p x) (Some (length xs)) None)
first_place-push p [] x = refl
first_place-push p (y ∷ ys) x = ap (first_with (p y)) (first_place-push p ys x) ∙ first_step (p y) (p x) (length ys) (first_place p ys)

pub first_place_more : {X : Type 0} (p : X → Bool) (xs : List X) (i : ℕ) (d : X) → i < length xs → first_place p (take (i + 1) xs) ≡ option_or (first_place p (take i xs)) (cond (p (get_or xs i d)) (Some i) None)
first_place_more p xs i d h =
    ap (first_place p) (take_more xs i d h)
    ∙ (first_place-push p (take i xs) (get_or xs i d)
    ∙ ap (λ n. option_or (first_place p (take i xs)) (cond (p (get_or xs i d)) (Some n) None)) (length-take-le i xs (omega arith)))

pub first_place_absent : {X : Type 0} (p : X → Bool) (xs : List X) → ((j : ℕ) (d : X) → j < length xs → p (get_or xs j d) ≡ false) → first_place p xs ≡ None
first_place_absent p [] f = refl
first_place_absent p (x ∷ xs) f = rw (f 0 x (omega arith)) (ap (λ (o : Option ℕ). option_map suc o) (first_place_absent p xs (λ j d l. f (suc j) d (omega arith))))

-- the last place of a list with one more element at its end
last_step : (b here : Bool) (n : ℕ) (o : Option ℕ) → last_or_here here (cond b (Some n) o) ≡ cond b (Some (suc n)) (last_or_here here o)
last_step true here n o = refl
last_step false here n o = refl

pub last_place-push : {X : Type 0} (p : X → Bool) (xs : List X) (x : X) → last_place p (xs ++ x ∷ []) ≡ cond (p x) (Some (length xs)) (last_place p xs)
last_place-push p [] x = refl
last_place-push p (y ∷ ys) x = ap (λ o. last_or_here (p y) o) (last_place-push p ys x) ∙ last_step (p x) (p y) (length ys) (last_place p ys)

here_within : (here : Bool) (o : Option ℕ) (n k : ℕ) → ((j : ℕ) → o ≡ Some j → j < n) → last_or_here here o ≡ Some k → k < suc n
here_within here (Some j) n k h e = let l = h j refl in let s : suc j ≡ k = cc in omega arith
here_within true None n k h e = let z : 0 ≡ k = cc in omega arith
here_within false None n k h e = absurd (cc)

pub last_place_within : {X : Type 0} (p : X → Bool) (xs : List X) (k : ℕ) → last_place p xs ≡ Some k → k < length xs
last_place_within p [] k e = absurd (cc)
last_place_within p (x ∷ xs) k e = here_within (p x) (last_place p xs) (length xs) k (last_place_within p xs) e

here_late : (here : Bool) (o : Option ℕ) → here ≡ true → (k : ℕ) × (last_or_here here o ≡ Some k) × (0 ≤ k)
here_late here (Some j) e = (suc j, refl, omega arith)
here_late here None e = (0, rw e refl, omega arith)

there_late : (here : Bool) (o : Option ℕ) (i : ℕ) → ((k : ℕ) × (o ≡ Some k) × (i ≤ k)) → (k : ℕ) × (last_or_here here o ≡ Some k) × (suc i ≤ k)
there_late here o i h = (suc h.0, rw h.1 refl, omega (arith, h.2))

pub last_place_late : {X : Type 0} (p : X → Bool) (xs : List X) (i : ℕ) (d : X) → i < length xs → p (get_or xs i d) ≡ true → (k : ℕ) × (last_place p xs ≡ Some k) × (i ≤ k)
last_place_late p [] i d h is = absurd (omega arith)
last_place_late p (x ∷ xs) zero d h is = here_late (p x) (last_place p xs) is
last_place_late p (x ∷ xs) (suc i) d h is = there_late (p x) (last_place p xs) i (last_place_late p xs i d (omega arith) is)

-- ---- the order of places

pub before_lower : (a b c : Position) → is_before b a ≡ false → is_before b c ≡ true → is_before a c ≡ true
before_lower a b c isnt is = grind (arith, nat_tests)

any_step : (b c r s : Bool) → (b ≡ true → c ≡ true) → (r ≡ true → s ≡ true) → (b || r) ≡ true → (c || s) ≡ true
any_step true c r s f g e = rw (f refl) refl
any_step false true r s f g e = refl
any_step false false r s f g e = g e

any_more : {X : Type 0} (p q : X → Bool) (xs : List X) → ((x : X) → p x ≡ true → q x ≡ true) → list_any p xs ≡ true → list_any q xs ≡ true
any_more p q [] f e = absurd (cc)
any_more p q (x ∷ xs) f e = any_step (p x) (q x) (list_any p xs) (list_any q xs) (f x) (any_more p q xs f) e

pub end_lower : (a b : Position) (page : Page) → is_before b a ≡ false → has_end_after b page ≡ true → has_end_after a page ≡ true
end_lower a b page isnt is = any_more (ends_after b) (ends_after a) page.solids (λ s e. before_lower a b s.end isnt e) is

any_some : {X : Type 0} (p : X → Bool) (xs : List X) → list_any p xs ≡ true → not (length xs == 0) ≡ true
any_some p [] e = absurd (cc)
any_some p (x ∷ xs) e = grind (arith, nat_tests)

pub end_has_solid : (at : Position) (page : Page) → has_end_after at page ≡ true → has_solid page ≡ true
end_has_solid at page is = any_some (ends_after at) page.solids is

pub no_end : (at : Position) (solids : List Placed) → ((j : ℕ) (d : Placed) → j < length solids → ends_after at (get_or solids j d) ≡ false) → list_any (ends_after at) solids ≡ false
no_end at [] f = refl
no_end at (s ∷ solids) f = rw (f 0 s (omega arith)) (no_end at solids (λ j d h. f (suc j) d (omega arith)))

unwrap_cond : (b : Bool) (n : ℕ) (o : Option ℕ) → unwrap_or (cond b (Some n) o) 0 ≡ cond b n (unwrap_or o 0)
unwrap_cond true n o = refl
unwrap_cond false n o = refl

-- ---- the page of a place

-- a page, where a lemma asks for one and a list may be empty
abbrev pub no_page : Page
no_page = record { index = 0; kind = Flow; name = record { 0 = 0 }; frame = record { left = pos 0; top = pos 0; width = pos 0; height = pos 0 }; solids = []; notes = []; level = 0 }

pub last_page_within : (pages : List Page) → last_page pages ≤ length pages
last_page_within pages = by (last_place has_solid pages) refl
  where
    by : (o : Option ℕ) → last_place has_solid pages ≡ o → unwrap_or (last_place has_solid pages) 0 ≤ length pages
    by None e = rw e (omega arith)
    by (Some k) e = rw e (let l = last_place_within has_solid pages k e in omega arith)

pub last_page_more : (pages : List Page) (i : ℕ) (page : Page) → i < length pages → page ≡ get_or pages i page → unwrap_or (last_place has_solid (take (i + 1) pages)) 0 ≡ cond (has_solid page) i (unwrap_or (last_place has_solid (take i pages)) 0)
last_page_more pages i page h read =
    let one : take (i + 1) pages ≡ take i pages ++ page ∷ [] = take_more pages i page h ∙ ap (λ (p : Page). take i pages ++ p ∷ []) (sym read) in
    let size : length (take i pages) ≡ i = length-take-le i pages (omega arith) in
    ap (λ (ps : List Page). unwrap_or (last_place has_solid ps) 0) one
    ∙ (ap (λ o. unwrap_or o 0) (last_place-push has_solid (take i pages) page)
    ∙ (ap (λ n. unwrap_or (cond (has_solid page) (Some n) (last_place has_solid (take i pages))) 0) size
    ∙ unwrap_cond (has_solid page) i (last_place has_solid (take i pages))))

-- a page with a solid is no later than the last one
no_later : (pages : List Page) (i : ℕ) (d : Page) → i < length pages → has_solid (get_or pages i d) ≡ true → i ≤ last_page pages
no_later pages i d h is = let l = last_place_late has_solid pages i d h is in rw l.1 l.2

first_no_later : (pages : List Page) (at : Position) (d : Page) (i : ℕ) → first_place (has_end_after at) pages ≡ Some i → i ≤ last_page pages
first_no_later pages at d i e = let f = first_place_some (has_end_after at) pages d i e in no_later pages i d f.within (end_has_solid at (get_or pages i d) f.passes)

-- the page that a place belongs to, where the first page with a solid that ends after it is known to be there or not
page_by : (pages : List Page) (at : Position) (P : ℕ → Type 0) → ((i : ℕ) → first_place (has_end_after at) pages ≡ Some i → P i) → (first_place (has_end_after at) pages ≡ None → P (last_page pages)) → P (page_at pages at)
page_by pages at P some none = by (first_place (has_end_after at) pages) refl
  where
    by : (o : Option ℕ) → first_place (has_end_after at) pages ≡ o → P (unwrap_or (first_place (has_end_after at) pages) (last_page pages))
    by None e = rw e (none e)
    by (Some i) e = rw e (some i e)

-- the first page from one on that has such a solid
pub page_at_here : (pages : List Page) (at : Position) (first k : ℕ) (d : Page) → k < length pages → has_end_after at (get_or pages k d) ≡ true → first ≤ k → first ≤ page_at pages at → ((j : ℕ) → first ≤ j → j < k → has_end_after at (get_or pages j d) ≡ false) → k ≡ page_at pages at
page_at_here pages at first k d h is here low before = page_by pages at (λ n. first ≤ n → k ≡ n) some none low
  where
    some : (i : ℕ) → first_place (has_end_after at) pages ≡ Some i → first ≤ i → k ≡ i
    some i e low =
        let f = first_place_some (has_end_after at) pages d i e in
        let not_after : (k < i → ⊥) = λ l. let isnt = f.before k l in cc in
        let not_before : (i < k → ⊥) = λ l. let isnt = before i low l in let passes = f.passes in cc in
        omega arith

    none : first_place (has_end_after at) pages ≡ None → first ≤ last_page pages → k ≡ last_page pages
    none e low = absurd (let isnt = first_place_none (has_end_after at) pages e k d h in cc)

-- no page from one on before the last one has such a solid
pub page_at_last : (pages : List Page) (at : Position) (first : ℕ) (d : Page) → first ≤ page_at pages at → ((j : ℕ) → first ≤ j → j < last_page pages → has_end_after at (get_or pages j d) ≡ false) → last_page pages ≡ page_at pages at
page_at_last pages at first d low before = page_by pages at (λ n. first ≤ n → last_page pages ≡ n) some (λ e l. refl) low
  where
    some : (i : ℕ) → first_place (has_end_after at) pages ≡ Some i → first ≤ i → last_page pages ≡ i
    some i e low =
        let f = first_place_some (has_end_after at) pages d i e in
        let most = first_no_later pages at d i e in
        let not_before : (i < last_page pages → ⊥) = λ l. let isnt = before i low l in let passes = f.passes in cc in
        omega arith

-- one more page without such a solid
pub passed_more : (pages : List Page) (at : Position) (first k : ℕ) (page : Page) → k < length pages → page ≡ get_or pages k page → has_end_after at page ≡ false → ((j : ℕ) (d : Page) → first ≤ j → j < k → has_end_after at (get_or pages j d) ≡ false) → (j : ℕ) (d : Page) → first ≤ j → j < k + 1 → has_end_after at (get_or pages j d) ≡ false
passed_more pages at first k page h read isnt before j d low l = by (cases_lt j k)
  where
    by : (j < k) ⊎ (k ≤ j) → has_end_after at (get_or pages j d) ≡ false
    by (inl less) = before j d low less
    by (inr more) =
        let same : k ≡ j = omega arith in
        subst (λ n. has_end_after at (get_or pages n d) ≡ false) same (ap (λ p. has_end_after at p) (get_or_default pages k d page h ∙ sym read) ∙ isnt)

pub page_at_within : (pages : List Page) (at : Position) (d : Page) → page_at pages at ≤ last_page pages
page_at_within pages at d = page_by pages at (λ n. n ≤ last_page pages) (first_no_later pages at d) (λ e. omega arith)

-- a place that is no later belongs to a page that is no later
pub page_at_lower : (pages : List Page) (a b : Position) (d : Page) → is_before b a ≡ false → page_at pages a ≤ page_at pages b
page_at_lower pages a b d isnt = page_by pages b (λ n. page_at pages a ≤ n) some (λ e. page_at_within pages a d)
  where
    some : (i : ℕ) → first_place (has_end_after b) pages ≡ Some i → page_at pages a ≤ i
    some i e =
        let f = first_place_some (has_end_after b) pages d i e in
        let is = end_lower a b (get_or pages i d) isnt f.passes in
        page_by pages a (λ n. n ≤ i)
        (λ j g. let first = first_place_some (has_end_after a) pages d j g in
        let not_after : (i < j → ⊥) = λ l. let earlier = first.before i l in cc in omega arith)
        (λ g. absurd (let none = first_place_none (has_end_after a) pages g i d f.within in cc))

-- ---- places at the end of texts

-- no place of a is after that of b
abbrev pub IsNoLater : Position → Position → Type 0
IsNoLater a b = (a.event < b.event) ⊎ ((a.event ≡ b.event) × (a.offset ≤ b.offset))

-- c is a, or where a stands at the end of a text of a size or after it, the next event
abbrev IsPast : Position → ℕ → Position → Type 0
IsPast a size c = ((a.offset < size) × (c.event ≡ a.event) × (c.offset ≡ a.offset)) ⊎ ((size ≤ a.offset) × (c.event ≡ suc a.event) × (c.offset ≡ 0))

no_later_from : (a b : Position) → is_before b a ≡ false → IsNoLater a b
no_later_from a b isnt = grind (arith, nat_tests)

not_before_from : (a b : Position) → IsNoLater a b → is_before b a ≡ false
not_before_from a b (inl l) = grind (arith, nat_tests)
not_before_from a b (inr l) = grind (arith, nat_tests)

-- a place at the end of a text goes on to the next event, and any other one stays
past_by : (a : Position) (size : ℕ) (b : Bool) → nat_le size a.offset ≡ b → IsPast a size (cond b (record { event = suc a.event; offset = 0 }) a)
past_by a size true e = inr (grind (arith, nat_tests), refl, refl)
past_by a size false e = inl (grind (arith, nat_tests), refl, refl)

past_is : (a : Position) (size : ℕ) → IsPast a size (past_text a (Some size))
past_is a size = past_by a size (nat_le size a.offset) refl

past_two : (a b c e : Position) (m n : ℕ) → (a.event ≡ b.event → m ≡ n) → IsNoLater a b → IsPast a m c → IsPast b n e → IsNoLater c e
past_two a b c e m n same l p q = grind arith

past_one : (a b e : Position) (n : ℕ) → IsNoLater a b → IsPast b n e → IsNoLater a e
past_one a b e n l q = grind arith

past_other : (a b c : Position) (m : ℕ) → (a.event ≡ b.event → ⊥) → IsNoLater a b → IsPast a m c → IsNoLater c b
past_other a b c m apart l p = grind arith

past_lower : (a b : Position) (o q : Option ℕ) → (a.event ≡ b.event → o ≡ q) → IsNoLater a b → IsNoLater (past_text a o) (past_text b q)
past_lower a b None None same l = l
past_lower a b None (Some n) same l = past_one a b (past_text b (Some n)) n l (past_is b n)
past_lower a b (Some m) None same l = past_other a b (past_text a (Some m)) m (λ e. let f = same e in cc) l (past_is a m)
past_lower a b (Some m) (Some n) same l = past_two a b (past_text a (Some m)) (past_text b (Some n)) m n (λ e. let f = same e in cc) l (past_is a m) (past_is b n)

pub anchor_lower : (t : Tree) (a b : Position) → is_before b a ≡ false → is_before (anchor_of t b) (anchor_of t a) ≡ false
anchor_lower t a b isnt = not_before_from (anchor_of t a) (anchor_of t b) (past_lower a b (text_length t.leaves (slice_get t.events a.event)) (text_length t.leaves (slice_get t.events b.event)) (λ e. ap (λ n. text_length t.leaves (slice_get t.events n)) e) (no_later_from a b isnt))

pub page_of_lower : (t : Tree) (pages : List Page) (a b : Position) (d : Page) → is_before b a ≡ false → page_of t pages a ≤ page_of t pages b
page_of_lower t pages a b d isnt = page_at_lower pages (anchor_of t a) (anchor_of t b) d (anchor_lower t a b isnt)

-- ---- the pages of places

pub pages_more : (t : Tree) (pages : List Page) (places : List Position) (i : ℕ) (d : Position) → i < length places → map (page_of t pages) (take (i + 1) places) ≡ map (page_of t pages) (take i places) ++ page_of t pages (get_or places i d) ∷ []
pages_more t pages places i d h = ap (map (page_of t pages)) (take_more places i d h) ∙ map-append (page_of t pages) (take i places) (get_or places i d ∷ [])

pub next_lower : (t : Tree) (pages : List Page) (places : List Position) (i : ℕ) (d next : Position) → NeverFall places → i < length places → slice_get places (i + 1) ≡ Some next → page_of t pages (get_or places i d) ≤ page_of t pages next
next_lower t pages places i d next order h e = page_of_lower t pages (get_or places i d) next no_page (order i (get_or places i d) next (slice_get-get_or places i d h) (rw add-one at e))
