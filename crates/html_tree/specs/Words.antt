-- The rows of a table by the first byte of their names, and bytes that a name keeps.
use Rattle.std.specs.Prelude.{ℕ, Bool, true, not, List, [], ◌∷◌, if◌then◌else◌, ◌==◌, ◌&&◌, ◌||◌}
use Rattle.std.specs.Char.{to_ascii_lowercase}

-- whether a name begins with a byte; the empty one begins with each
abbrev pub begins_with : ℕ → List ℕ → Bool
begins_with b [] = true
begins_with b (a ∷ name) = b == a

-- the rows whose names may stand where this byte does, in their order: those that begin with it
abbrev pub starting : ℕ → List (List ℕ × ℕ) → List (List ℕ × ℕ)
starting b [] = []
starting b (r ∷ rows) = if begins_with b r.0 then r ∷ starting b rows else starting b rows

-- a byte that stays in a name: no upper-case letter, U+000D or U+0000
abbrev pub stays : ℕ → Bool
stays b = to_ascii_lowercase b == b && not (b == 13 || b == 0)
