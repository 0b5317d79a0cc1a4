-- Which brackets are open (css-syntax, 5.4.8). The closers that they wait for are listed, the innermost last.
use Rattle.std.specs.Prelude.{ℕ, zero, suc, Bool, false, if◌then◌else◌, ◌==◌, List, [], ◌∷◌, ◌++◌, Option, Some, None, slice_get, length, take, ◌-◌}
use Rattle.css_tok.specs.Marks.{mark, closer_of}
use Rattle.css_tok.specs.Tokens.{Item}

-- whether the mark that is awaited is this one
abbrev pub is_mark : Option ℕ → ℕ → Bool
is_mark None b = false
is_mark (Some c) b = c == b

-- whether a token closes the innermost open bracket
unfoldable pub closes : List ℕ → Item → Bool
closes open' t = is_mark (slice_get open' (length open' - 1)) (mark t)

-- the marks that close the open brackets, after a token that opens one or may close one
abbrev pub opened : Option ℕ → List ℕ → Item → List ℕ
opened (Some c) open' t = open' ++ c ∷ []
opened None open' t = if closes open' t then take (length open' - 1) open' else open'

-- the open brackets after one more token; a closer that isn't waited for is a plain token
unfoldable pub open_after : List ℕ → Item → List ℕ
open_after open' t = opened (closer_of t) open' t

-- whether no bracket is open
unfoldable pub is_outside : List ℕ → Bool
is_outside open' = length open' == 0

-- the brackets that are open before the k-th token
unfoldable pub open_at : List ℕ → List Item → ℕ → List ℕ
open_at open' ts zero = open'
open_at open' [] (suc k) = open'
open_at open' (t ∷ ts) (suc k) = open_at (open_after open' t) ts k

-- no bracket of these tokens is left open at their end
unfoldable pub is_closed : List Item → Bool
is_closed ts = is_outside (open_at [] ts (length ts))
