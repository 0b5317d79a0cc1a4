-- What is looked up of a word: its pieces, in two trees, for patterns that stand only at a word's start and for the
-- others.
use Rattle.std.specs.Prelude.{ℕ, ◌+◌, ◌-◌, Bool, true, false, List, length, take, drop, nat_le, ◌==◌, if◌then◌else◌, max}
use Rattle.hyphen.specs.Pattern.{most}

-- values by letters: of patterns that stand anywhere, and of those that stand only at a word's end
abbrev pub Values : Type 0
Values = Bool → List ℕ → ℕ → ℕ

-- the values of patterns that stand anywhere, and of those that stand only at a word's start
abbrev pub TwoValues : Type 0
TwoValues = Bool → Values

-- the greatest value of a piece that stands at a word's end or not
unfoldable pub branch_value : Values → List ℕ → Bool → ℕ → ℕ
branch_value t piece ends k = max (t false piece k) (if ends then t true piece k else 0)

-- the greatest value of a piece that stands at a word's start or not, and at its end or not
unfoldable pub piece_value : TwoValues → List ℕ → Bool → Bool → ℕ → ℕ
piece_value t piece starts ends k = max (branch_value (t false) piece ends k)
    (if starts then branch_value (t true) piece ends k else 0)

-- what the piece of m + 1 letters from a place on puts at another, by one of the two
unfoldable pub branch_from : Values → List ℕ → ℕ → ℕ → ℕ → ℕ
branch_from t word place at m = if nat_le at place then
    branch_value t (take (m + 1) (drop at word)) (at + (m + 1) == length word) (place - at) else 0

-- the same by both
unfoldable pub piece_from : TwoValues → List ℕ → ℕ → ℕ → ℕ → ℕ
piece_from t word place at m = if nat_le at place then
    piece_value t (take (m + 1) (drop at word)) (at == 0) (at + (m + 1) == length word) (place - at) else 0

-- the greatest of those of a place
unfoldable pub pieces_from : TwoValues → List ℕ → ℕ → ℕ → ℕ
pieces_from t word place at = most (length word - at) (piece_from t word place at)

-- the greatest value of all pieces of a word
unfoldable pub pieces_value : TwoValues → List ℕ → ℕ → ℕ
pieces_value t word place = most (length word) (pieces_from t word place)
