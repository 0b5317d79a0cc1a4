-- Readers in a row.
use Rattle.std.specs.Prelude.{ℕ, zero, suc, if◌then◌else◌, nat_lt, List, [], ◌∷◌, ◌++◌, length, Option, Some, None}
use Rattle.css_words.specs.Parser.{Outcome, Parser, and_then, ◌>>=◌, ◌>>◌, pure, refuse, peek, advance}
use Rattle.css_words.specs.Words.{is_mark}

-- values before those of an outcome
abbrev pub with_prefix : {A : Type 0} → List A → Outcome (List A) → Outcome (List A)
with_prefix xs None = None
with_prefix xs (Some r) = Some (xs ++ r.0, r.1)

-- a first value, and those that follow it
abbrev pub first_and : {A : Type 0} → Parser A → Parser (List A) → Parser (List A)
first_and p more = p >>= (λ x i. with_prefix (x ∷ []) (more i))

-- the end of a row where nothing was found, and else what was found and the rest
abbrev pub found_then : {A : Type 0} → Parser (List A) → Option A → Parser (List A)
found_then more None = pure []
found_then more (Some x) = λ i. with_prefix (x ∷ []) (more i)

-- what a reader finds in a row until it finds none, and fewer than n of them: more have no reading
unfoldable pub fewer_than : {A : Type 0} → ℕ → Parser (Option A) → Parser (List A)
fewer_than zero p = refuse
fewer_than (suc n) p = p >>= found_then (fewer_than n p)

-- what was found, where fewer tokens than n are left after it
abbrev pub taken : {A : Type 0} → ℕ → Option A → Parser (Option A)
taken n None = pure None
taken n (Some x) = λ i. if nat_lt (length i) n then Some (Some x, i) else None

-- a reader that takes a token at least of what it finds
unfoldable pub taking : {A : Type 0} → Parser (Option A) → Parser (Option A)
taking p = λ i. and_then (p i) (taken (length i))

-- what a reader finds in a row, however many: each takes a token, so that there are at most as many as tokens
unfoldable pub many : {A : Type 0} → Parser (Option A) → Parser (List A)
many p = λ i. fewer_than (suc (length i)) (taking p) i

-- a value after a single character; none where it doesn't come
unfoldable pub after_mark : {A : Type 0} → ℕ → Parser A → Parser (Option A)
after_mark b p = do
  t ← peek
  if is_mark b t then (advance >> p >>= (λ x. pure (Some x))) else pure None

-- one value or more, with commas, which are 44, between them (css-values-3, 2.3: `#`)
unfoldable pub comma_list : {A : Type 0} → Parser A → Parser (List A)
comma_list p = first_and p (many (after_mark 44 p))
