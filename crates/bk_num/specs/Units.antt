-- Whole units: rounding, and holding within the greatest length.
use Rattle.std.specs.Prelude.{ℕ, ◌*◌, ℤ, pos, ◌+ℤ◌, ◌*ℤ◌, neg_ℤ}
use Rattle.std.specs.Int.{int_max, int_min, int_div_euclid}
use Rattle.bk_num.specs.Limits.{most_length}

-- the nearest whole number that is a length
unfoldable pub clamped : ℤ → ℤ
clamped z = int_max (neg_ℤ (pos most_length)) (int_min z (pos most_length))

-- floor (n / d), for d above 0
abbrev pub floor_div : ℤ → ℕ → ℤ
floor_div n d = int_div_euclid n (pos d)

-- floor (n / d + 1/2), for d above 0
unfoldable pub rounded : ℤ → ℕ → ℤ
rounded n d = floor_div (pos 2 *ℤ n +ℤ pos d) (2 * d)
