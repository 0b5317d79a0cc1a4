-- Liang's patterns: what one is, where it matches, and the values that it puts between the letters of a word.
use Rattle.std.specs.Prelude.{ℕ, zero, suc, ◌+◌, ◌-◌, Bool, not, List, [], ◌∷◌, length, take, drop, nat_le, ◌==◌, ◌&&◌, ◌||◌, if◌then◌else◌, slice_index, max}
use Rattle.std.specs.Str.{bytes_eq}

-- a pattern: its letters, a value before each and after the last, and whether it stands only at a word's start or only
-- at its end
pub record Pattern : Type 0 where
  pub starts : Bool
  pub letters : List ℕ
  pub values : List ℕ
  pub ends : Bool

-- whether a pattern matches a word, given by its letters, from a place on
unfoldable pub matches : Pattern → List ℕ → ℕ → Bool
matches p word at = bytes_eq p.letters (take (length p.letters) (drop at word)) &&
    ((not p.starts || at == 0) && (not p.ends || at + length p.letters == length word))

-- the value that a pattern puts at a place where it matches from another on: none is 0
unfoldable pub value_from : Pattern → List ℕ → ℕ → ℕ → ℕ
value_from p word place at = if matches p word at && nat_le at place then slice_index p.values (place - at) else 0

-- the greatest of n values
unfoldable pub most : ℕ → (ℕ → ℕ) → ℕ
most zero f = 0
most (suc n) f = max (most n f) (f n)

-- the greatest value that a pattern puts at a place of a word, wherever it matches
unfoldable pub value_of : Pattern → List ℕ → ℕ → ℕ
value_of p word place = most (length word) (value_from p word place)

-- the value of a place of a word: the greatest that any pattern puts there
unfoldable pub value_at : List Pattern → List ℕ → ℕ → ℕ
value_at [] word place = 0
value_at (p ∷ ps) word place = max (value_of p word place) (value_at ps word place)
