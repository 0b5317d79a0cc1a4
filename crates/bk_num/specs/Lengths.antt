-- Lengths made of decimal numbers (CSS 2.1, 4.3.2).
use Rattle.std.specs.Prelude.{ℕ, ◌*◌, ◌^◌, ℤ, ◌*ℤ◌, Option, None, Some}
use Rattle.bk_num.specs.Units.{clamped, rounded}
use Rattle.bk_num.specs.Numbers.{Number}
use Rattle.bk_num.specs.declared.length.Unit.{Unit}
use Rattle.bk_num.specs.declared.length.Unit.TheVariants as unit
use Rattle.bk_num.specs.declared.length.Len.{Len}
use Rattle.bk_num.specs.declared.length.Len.TheVariants as len

-- the part of a base that a decimal number over a whole one gives, to the nearest unit
abbrev pub part : Number → ℤ → ℕ → ℤ
part d base den = clamped (rounded (d.units *ℤ base) (10 ^ d.places * den))

-- the units of 1/64 px in one of each unit, as a fraction: an in is 96 px and 2.54 cm, a pt 4/3 px, a pc 16 px
abbrev pub units_per : Unit → ℕ × ℕ
units_per unit.Px = (64, 1)
units_per unit.In = (6144, 1)
units_per unit.Cm = (614400, 254)
units_per unit.Mm = (614400, 2540)
units_per unit.Pt = (256, 3)
units_per unit.Pc = (1024, 1)

-- the used length: a percentage is of the base
abbrev pub used_of : Len → ℤ → Option ℤ
used_of (len.Px p) base = Some p
used_of (len.Percent d) base = Some (part d base 100)
used_of len.Auto base = None
