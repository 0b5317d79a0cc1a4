-- How declarations of one property are ranked (CSS 2.1, 6.4.1).
use Rattle.std.specs.Prelude.{ℕ, Bool, List}
use Rattle.std.specs.Cmp.Lexicographic.{slice_cmp}
use Rattle.std.specs.Ordering.{nat_cmp, is_gt}

-- a declaration wins over another by their ranks: the first in which they differ decides, and the greater one wins
abbrev pub outranks : List ℕ → List ℕ → Bool
outranks a b = is_gt (slice_cmp nat_cmp a b)
