-- How far solids reach that stand one below the other, each under its gap.
use Rattle.std.specs.Prelude.{ℕ, zero, suc, ℤ, pos, ◌+ℤ◌}
use Rattle.std.specs.Int.{int_max}

-- the bottom of the nth of some solids: the sum of the first n gaps and heights
abbrev pub bottom_of : (ℕ → ℤ) → (ℕ → ℤ) → ℕ → ℤ
bottom_of gap height zero = pos 0
bottom_of gap height (suc n) = (bottom_of gap height n +ℤ gap n) +ℤ height n

-- the greatest of n bottoms, at least a given one
abbrev pub greatest_of : ℤ → (ℕ → ℤ) → ℕ → ℤ
greatest_of least bottom zero = least
greatest_of least bottom (suc n) = int_max (greatest_of least bottom n) (bottom n)

-- the greatest bottom, at least 0, of the first n solids
abbrev pub extent_of : (ℕ → ℤ) → (ℕ → ℤ) → ℕ → ℤ
extent_of gap height n = greatest_of (pos 0) (λ k. bottom_of gap height (suc k)) n
