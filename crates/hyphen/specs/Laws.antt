-- What holds of the values of a word, whatever the patterns.
use Rattle.std.specs.Prelude.{◌≡◌, ◌≤◌, ◌<◌, ◌⊎◌, ℕ, List, length, slice_get, Some}
use Rattle.hyphen.specs.Pattern.{Pattern, value_from, value_at}

-- a value is the greatest at a place: no pattern puts a greater one there, wherever it matches, and one puts it there
-- unless it is 0
pub record IsGreatest (ps : List Pattern) (word : List ℕ) (place v : ℕ) : Type 0 where
  pub bound : (k at : ℕ) (p : Pattern) → slice_get ps k ≡ Some p → at < length word → value_from p word place at ≤ v
  pub reached : (v ≡ 0) ⊎ ((k : ℕ) × (at : ℕ) × (p : Pattern) ×
      (slice_get ps k ≡ Some p) × (at < length word) × (value_from p word place at ≡ v))

abbrev pub ValuesAreGreatest : Type 0
ValuesAreGreatest = (ps : List Pattern) (word : List ℕ) (place : ℕ) → IsGreatest ps word place (value_at ps word place)
