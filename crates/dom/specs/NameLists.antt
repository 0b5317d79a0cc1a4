-- The places of names in a list without repetition.
use Rattle.std.specs.Prelude.{◌≡◌, ℕ, List, Some, length, slice_get, position, unwrap_or}
use Rattle.std.specs.Str.{bytes_eq}

-- the number of a name among names: its place, or the next free one
abbrev pub place_of : List (List ℕ) → List ℕ → ℕ
place_of names name = unwrap_or (position (bytes_eq name) names) (length names)

-- no name stands at two places
abbrev pub AreOnce : List (List ℕ) → Type 0
AreOnce names = (i j : ℕ) (name : List ℕ) → slice_get names i ≡ Some name → slice_get names j ≡ Some name → i ≡ j
