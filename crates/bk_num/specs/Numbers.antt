-- Decimal numbers, and bounds on whole numbers.
use Rattle.std.specs.Prelude.{ℕ, zero, suc, ◌≤◌, ℤ, Option, None, Some, unsigned_abs}

-- a number with a decimal point (css-syntax, 4.3.12): units over ten to the power of places
pub record Number : Type 0 where
  pub units : ℤ
  pub places : ℕ

-- at most n either way
abbrev pub IsWithin : ℕ → ℤ → Type 0
IsWithin n z = unsigned_abs z ≤ n

-- the last of so many
abbrev pub last_of : ℕ → Option ℕ
last_of zero = None
last_of (suc n) = Some n
