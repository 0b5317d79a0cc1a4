-- How far out solids stand on their page: sums of their places are within 64 bits.
use Rattle.std.specs.Prelude.{◌^◌, ◌≤ℤ◌, pos}
use Rattle.bk_num.specs.Numbers.{IsWithin}
use Rattle.boxes.specs.declared.page.Placed.{Placed}

-- a solid's top is within 2^60 units, and its height from 0 to 2^32
pub record IsNearSolid (s : Placed) : Type 0 where
  pub top : IsWithin (2 ^ 60) s.top
  pub height : IsWithin (2 ^ 32) s.height
  pub some : pos 0 ≤ℤ s.height
