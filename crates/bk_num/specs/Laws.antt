-- What rounding and clamping keep.
use Rattle.std.specs.Prelude.{◌≡◌, ℕ, ◌<◌, ◌≤◌, ℤ, ◌≤ℤ◌, unsigned_abs}
use Rattle.bk_num.specs.Limits.{most_length}
use Rattle.bk_num.specs.Units.{clamped, rounded}

-- clamping keeps the order
abbrev pub ClampingKeepsOrder : Type 0
ClampingKeepsOrder = (x y : ℤ) → x ≤ℤ y → clamped x ≤ℤ clamped y

-- a number within the bounds stays
abbrev pub ClampingKeepsSmall : Type 0
ClampingKeepsSmall = (x : ℤ) → unsigned_abs x ≤ most_length → clamped x ≡ x

-- what is clamped is within the bounds
abbrev pub ClampingBounds : Type 0
ClampingBounds = (x : ℤ) → unsigned_abs (clamped x) ≤ most_length

-- rounding keeps the order
abbrev pub RoundingKeepsOrder : Type 0
RoundingKeepsOrder = (x y : ℤ) (d : ℕ) → 0 < d → x ≤ℤ y → rounded x d ≤ℤ rounded y d
