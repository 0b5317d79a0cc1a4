-- Readers in a row, a turn at a time.
use Rattle.std.proofs.Common.{◌≡◌, ℕ, zero, suc, ◌<◌, Bool, true, false, List, [], ◌∷◌, ◌++◌, length, refl, ap, sym, ◌∙◌, arith, append_assoc, append-nil, cond}
use Rattle.std.specs.Prelude.{Option, Some, None, nat_lt}
use Rattle.std.proofs.lemmas.Bool.Decides.{nat_tests}
use Rattle.css_words.specs.Parser.{Input, Outcome, Parser, and_then}
use Rattle.css_words.specs.Repeat.{with_prefix, fewer_than, taking, taken, many}

pub fewer_more : {A : Type 0} (p : Parser (Option A)) (n : ℕ) (i j : Input) (x : A) → p i ≡ Some (Some x, j) → fewer_than (suc n) p i ≡ with_prefix (x ∷ []) (fewer_than n p j)
unfolding fewer_than
fewer_more p n i j x is = rw is refl

pub fewer_last : {A : Type 0} (p : Parser (Option A)) (n : ℕ) (i j : Input) → p i ≡ Some (None, j) → fewer_than (suc n) p i ≡ Some ([], j)
unfolding fewer_than
fewer_last p n i j is = rw is refl

pub fewer_err : {A : Type 0} (p : Parser (Option A)) (n : ℕ) (i : Input) → p i ≡ None → fewer_than (suc n) p i ≡ None
unfolding fewer_than
fewer_err p n i is = rw is refl

pub fewer_zero : {A : Type 0} (p : Parser (Option A)) (i : Input) → fewer_than 0 p i ≡ None
unfolding fewer_than
fewer_zero p i = refl

taking_more : {A : Type 0} (p : Parser (Option A)) (i j : Input) (x : A) → p i ≡ Some (Some x, j) → length j < length i → taking p i ≡ Some (Some x, j)
unfolding taking
taking_more p i j x is less = let t : nat_lt (length j) (length i) ≡ true = grind (arith, nat_tests) in rw is (rw t refl)

taking_last : {A : Type 0} (p : Parser (Option A)) (i j : Input) → p i ≡ Some (None, j) → taking p i ≡ Some (None, j)
unfolding taking
taking_last p i j is = rw is refl

taking_err : {A : Type 0} (p : Parser (Option A)) (i : Input) → p i ≡ None → taking p i ≡ None
unfolding taking
taking_err p i is = rw is refl

-- what takes a token leaves fewer
abbrev TakesSome : {A : Type 0} → Input → Option A → Input → Type 0
TakesSome i None j = Unit {0}
TakesSome i (Some x) j = length j < length i

abbrev Takes : {A : Type 0} → Input → Outcome (Option A) → Type 0
Takes i None = Unit {0}
Takes i (Some r) = TakesSome i r.0 r.1

takes_if : {A : Type 0} (i j : Input) (x : A) (b : Bool) → nat_lt (length j) (length i) ≡ b → Takes i (cond b (Some (Some x, j)) None)
takes_if i j x true e = grind (arith, nat_tests)
takes_if i j x false e = tt

takes_taken : {A : Type 0} (i j : Input) (o : Option A) → Takes i (taken (length i) o j)
takes_taken i j None = tt
takes_taken i j (Some x) = takes_if i j x (nat_lt (length j) (length i)) refl

takes_from : {A : Type 0} (i : Input) (o : Outcome (Option A)) → Takes i (and_then o (taken (length i)))
takes_from i None = tt
takes_from i (Some r) = takes_taken i r.1 r.0

takes : {A : Type 0} (p : Parser (Option A)) (i : Input) → Takes i (taking p i)
unfolding taking
takes p i = takes_from i (p i)

same_step : {A : Type 0} (q : Parser (Option A)) (n m : ℕ) (i : Input) (o : Option A) (j : Input)
    → ((k : Input) → length k < n → length k < m → fewer_than n q k ≡ fewer_than m q k)
    → length i < suc n → length i < suc m → q i ≡ Some (o, j) → TakesSome i o j → fewer_than (suc n) q i ≡ fewer_than (suc m) q i
same_step q n m i None j again a b is t = fewer_last q n i j is ∙ sym (fewer_last q m i j is)
same_step q n m i (Some x) j again a b is t =
    fewer_more q n i j x is ∙ ap (with_prefix (x ∷ [])) (again j (omega (arith, t, a)) (omega (arith, t, b))) ∙ sym (fewer_more q m i j x is)

same_turn : {A : Type 0} (q : Parser (Option A)) (n m : ℕ) (i : Input) (o : Outcome (Option A))
    → ((k : Input) → length k < n → length k < m → fewer_than n q k ≡ fewer_than m q k)
    → length i < suc n → length i < suc m → q i ≡ o → Takes i o → fewer_than (suc n) q i ≡ fewer_than (suc m) q i
same_turn q n m i None again a b is t = fewer_err q n i is ∙ sym (fewer_err q m i is)
same_turn q n m i (Some r) again a b is t = same_step q n m i r.0 r.1 again a b is t

-- more turns than tokens are enough
enough : {A : Type 0} (p : Parser (Option A)) (n m : ℕ) (i : Input) → length i < n → length i < m → fewer_than n (taking p) i ≡ fewer_than m (taking p) i
enough p zero m i a b = absurd (omega arith)
enough p (suc n) zero i a b = absurd (omega arith)
enough p (suc n) (suc m) i a b = same_turn (taking p) n m i (taking p i) (enough p n m) a b refl (takes p i)

pub many_more : {A : Type 0} (p : Parser (Option A)) (i j : Input) (x : A) → p i ≡ Some (Some x, j) → length j < length i → many p i ≡ with_prefix (x ∷ []) (many p j)
unfolding many
many_more p i j x is less =
    fewer_more (taking p) (length i) i j x (taking_more p i j x is less)
    ∙ ap (with_prefix (x ∷ [])) (enough p (length i) (suc (length j)) j less (omega arith))

pub many_last : {A : Type 0} (p : Parser (Option A)) (i j : Input) → p i ≡ Some (None, j) → many p i ≡ Some ([], j)
unfolding many
many_last p i j is = fewer_last (taking p) (length i) i j (taking_last p i j is)

pub many_err : {A : Type 0} (p : Parser (Option A)) (i : Input) → p i ≡ None → many p i ≡ None
unfolding many
many_err p i is = fewer_err (taking p) (length i) i (taking_err p i is)

-- ---- after those that were found

pub no_prefix : {A : Type 0} (o : Outcome (List A)) → with_prefix [] o ≡ o
no_prefix None = refl
no_prefix (Some r) = refl

prefixes : {A : Type 0} (xs ys : List A) (o : Outcome (List A)) → with_prefix xs (with_prefix ys o) ≡ with_prefix (xs ++ ys) o
prefixes xs ys None = refl
prefixes xs ys (Some r) = ap (λ z. Some (z, r.1)) (sym (append_assoc xs ys r.0))

pub many_goes : {A : Type 0} (p : Parser (Option A)) (xs : List A) (i j : Input) (x : A) → p i ≡ Some (Some x, j) → length j < length i → with_prefix xs (many p i) ≡ with_prefix (xs ++ x ∷ []) (many p j)
many_goes p xs i j x is less = ap (with_prefix xs) (many_more p i j x is less) ∙ prefixes xs (x ∷ []) (many p j)

pub many_stops : {A : Type 0} (p : Parser (Option A)) (xs : List A) (i j : Input) → p i ≡ Some (None, j) → with_prefix xs (many p i) ≡ Some (xs, j)
many_stops p xs i j is = ap (with_prefix xs) (many_last p i j is) ∙ ap (λ z. Some (z, j)) (append-nil xs)

pub many_fails : {A : Type 0} (p : Parser (Option A)) (xs : List A) (i : Input) → p i ≡ None → with_prefix xs (many p i) ≡ None
many_fails p xs i is = ap (with_prefix xs) (many_err p i is)

-- a turn of a loop over `many`
pub ruleset many_turns = (many_goes, many_stops, many_fails)

-- the same where no value was found before the loop
pub ruleset lone_turns = (no_prefix, many_turns)

pub fewer_goes : {A : Type 0} (p : Parser (Option A)) (n : ℕ) (xs : List A) (i j : Input) (x : A) → p i ≡ Some (Some x, j) → with_prefix xs (fewer_than (suc n) p i) ≡ with_prefix (xs ++ x ∷ []) (fewer_than n p j)
fewer_goes p n xs i j x is = ap (with_prefix xs) (fewer_more p n i j x is) ∙ prefixes xs (x ∷ []) (fewer_than n p j)

pub fewer_stops : {A : Type 0} (p : Parser (Option A)) (n : ℕ) (xs : List A) (i j : Input) → p i ≡ Some (None, j) → with_prefix xs (fewer_than (suc n) p i) ≡ Some (xs, j)
fewer_stops p n xs i j is = ap (with_prefix xs) (fewer_last p n i j is) ∙ ap (λ z. Some (z, j)) (append-nil xs)

pub fewer_fails : {A : Type 0} (p : Parser (Option A)) (n : ℕ) (xs : List A) (i : Input) → p i ≡ None → with_prefix xs (fewer_than (suc n) p i) ≡ None
fewer_fails p n xs i is = ap (with_prefix xs) (fewer_err p n i is)

pub fewer_ends : {A : Type 0} (p : Parser (Option A)) (xs : List A) (i : Input) → with_prefix xs (fewer_than 0 p i) ≡ None
fewer_ends p xs i = ap (with_prefix xs) (fewer_zero p i)
