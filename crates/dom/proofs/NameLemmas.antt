-- The number of a name among names and among the texts that keep them.
use Rattle.std.proofs.Common.{zero, slice_get, get_or, ◌⊎◌, inl, inr, subst, Result, Ok, Err, OnOk, is_ok, if◌then◌else◌, ◌≡◌, ℕ, suc, ◌+◌, ◌<◌, ◌||◌, not, Bool, true, false, List, [], ◌∷◌, ◌++◌, Option, None, Some, map, position, is_some, cond, refl, ◌∙◌, ap, sym, length, nat_lt, arith}
use Rattle.std.specs.String.{string_bytes, string_eq}
use Rattle.std.specs.declared.string.String.{String}
use Rattle.std.specs.Str.{bytes_eq}
use Rattle.std.proofs.lemmas.List.Quantifiers.{position-Some}
use Rattle.std.proofs.lemmas.Option.{slice_get-get_or}
use Rattle.bk_num.specs.Names.{with_name}
use Rattle.dom.specs.NameLists.{AreOnce}
use Rattle.std.specs.List.{list_any, position_or_len}
use Rattle.std.proofs.lemmas.List.{length-map, map-append}
use Rattle.std.proofs.lemmas.Bool.Decides.{nat_tests}
use Rattle.bk_num.proofs.ListLemmas.{prefix_len-map, bytes_same, bytes_self, get-push}

pub position-map : {A B : Type 0} (f : A → B) (test : B → Bool) (xs : List A) → position test (map f xs) ≡ position (λ x. test (f x)) xs
position-map f test xs = rw (prefix_len-map f (λ x. not (test x)) xs, length-map xs f) refl

pub any-within : {A : Type 0} (test : A → Bool) (xs : List A) → list_any test xs ≡ nat_lt (position_or_len test xs) (length xs)
any-within test [] = refl
any-within test (x ∷ xs) = by (test x) (any-within test xs)
  where
    by : (b : Bool) → list_any test xs ≡ nat_lt (position_or_len test xs) (length xs) → (b || list_any test xs) ≡ nat_lt (cond (not b) (1 + position_or_len test xs) 0) (suc (length xs))
    by true h = sym (grind (arith, nat_tests))
    by false h = h ∙ grind (arith, nat_tests)

pub any-position : {A : Type 0} (test : A → Bool) (xs : List A) → list_any test xs ≡ is_some (position test xs)
any-position test xs = any-within test xs ∙ by (nat_lt (position_or_len test xs) (length xs))
  where
    by : (b : Bool) → b ≡ is_some (cond b (Some (position_or_len test xs)) None)
    by true = refl
    by false = refl

pub of_ok : {T E : Type 0} (r : Result T E) (P : Type 0) → is_ok r ≡ true → OnOk r P → P
of_ok (Ok x) P h p = p
of_ok (Err e) P h p = cc

pub not-any : {Z : Type 0} (keys : List (String Z)) (key : String Z) (name : List ℕ) → string_bytes key ≡ name → position (bytes_eq name) (map (λ s. string_bytes s) keys) ≡ None → list_any (string_eq key) keys ≡ false
not-any keys key name is none =
    let at : position (bytes_eq (string_bytes key)) (map (λ s. string_bytes s) keys) ≡ None = rw is none in
    any-position (string_eq key) keys ∙ ap is_some (sym (position-map (λ s. string_bytes s) (bytes_eq (string_bytes key)) keys) ∙ at)

-- a name that is not there goes last
pub names-new : {S : Type 0} (text : S → List ℕ) (keys : List S) (key : S) (name : List ℕ) → text key ≡ name → position (bytes_eq name) (map text keys) ≡ None
    → map text (if list_any (λ k. bytes_eq (text key) (text k)) keys then keys else keys ++ key ∷ []) ≡ with_name (map text keys) name
names-new {S} text keys key name is none =
    let at : position (bytes_eq (text key)) (map text keys) ≡ None = rw is none in
    let no : list_any (λ k. bytes_eq (text key) (text k)) keys ≡ false = any-position (λ k. bytes_eq (text key) (text k)) keys ∙ ap is_some (sym (position-map text (bytes_eq (text key)) keys) ∙ at) in
    let absent : list_any (bytes_eq name) (map text keys) ≡ false = any-position (bytes_eq name) (map text keys) ∙ ap is_some none in
    rw (no, absent) (map-append text keys (key ∷ []) ∙ ap (λ n. map text keys ++ n ∷ []) is)

-- a name that is there adds nothing
pub name-there : (names : List (List ℕ)) (name : List ℕ) (k : ℕ) → position (bytes_eq name) names ≡ Some k → with_name names name ≡ names
name-there names name k e = rw (any-position (bytes_eq name) names, e) refl

any-get : {A : Type 0} (test : A → Bool) (xs : List A) (j : ℕ) (x : A) → slice_get xs j ≡ Some x → test x ≡ true → list_any test xs ≡ true
any-get test [] j x g t = cc
any-get test (a ∷ xs) zero x g t = let e : a ≡ x = cc in rw (e, t) refl
any-get test (a ∷ xs) (suc j) x g t = by (test a) (any-get test xs j x g t)
  where
    by : (b : Bool) → list_any test xs ≡ true → (b || list_any test xs) ≡ true
    by true h = refl
    by false h = h

-- a name that has no number is not there
pub not-there : (names : List (List ℕ)) (name : List ℕ) (j : ℕ) → position (bytes_eq name) names ≡ None → slice_get names j ≡ Some name → ⊥
not-there names name j none g =
    let a : list_any (bytes_eq name) names ≡ true = any-get (bytes_eq name) names j name g (bytes_self name) in
    let b : list_any (bytes_eq name) names ≡ false = any-position (bytes_eq name) names ∙ ap is_some none in
    let e : true ≡ false = sym a ∙ b in
    cc

-- the name of a number
pub is-there : (names : List (List ℕ)) (name : List ℕ) (k : ℕ) → position (bytes_eq name) names ≡ Some k → (k < length names) × (slice_get names k ≡ Some name)
is-there names name k e =
    let p = position-Some (bytes_eq name) names k [] e in
    (p.0, slice_get-get_or names k [] p.0 ∙ ap (λ n. Some n) (sym (bytes_same name (get_or names k []) p.1)))

pub once-with : (names : List (List ℕ)) (name : List ℕ) → AreOnce names → AreOnce (with_name names name)
once-with names name once = subst (λ b. AreOnce (cond b names (names ++ name ∷ []))) (sym (any-position (bytes_eq name) names)) (by (position (bytes_eq name) names) refl)
  where
    by : (o : Option ℕ) → position (bytes_eq name) names ≡ o → AreOnce (cond (is_some o) names (names ++ name ∷ []))
    by (Some k) e = once
    by None e = λ i j x g h. both i j x (get-push names name x i g) (get-push names name x j h)
      where
        both : (i j : ℕ) (x : List ℕ) → (((i ≡ length names) × (x ≡ name)) ⊎ (slice_get names i ≡ Some x)) → (((j ≡ length names) × (x ≡ name)) ⊎ (slice_get names j ≡ Some x)) → i ≡ j
        both i j x (inl (a, v)) (inl (b, w)) = a ∙ sym b
        both i j x (inl (a, v)) (inr h) = absurd (not-there names name j e (subst (λ n. slice_get names j ≡ Some n) v h))
        both i j x (inr g) (inl (b, w)) = absurd (not-there names name i e (subst (λ n. slice_get names i ≡ Some n) w g))
        both i j x (inr g) (inr h) = once i j x g h
