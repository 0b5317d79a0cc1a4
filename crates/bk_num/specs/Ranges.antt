-- The ranges of lengths.
use Rattle.std.specs.Prelude.{◌≤ℤ◌, pos}
use Rattle.bk_num.specs.declared.length.Len.{Len}
use Rattle.bk_num.specs.declared.length.Len.TheVariants as len

-- a length or a percentage that isn't negative, or `auto`
abbrev pub IsNotNegative : Len → Type 0
IsNotNegative (len.Px p) = pos 0 ≤ℤ p
IsNotNegative (len.Percent d) = pos 0 ≤ℤ d.units
IsNotNegative len.Auto = Unit {0}

-- a length or a percentage
abbrev pub IsNotAuto : Len → Type 0
IsNotAuto (len.Px p) = Unit {0}
IsNotAuto (len.Percent d) = Unit {0}
IsNotAuto len.Auto = ⊥
