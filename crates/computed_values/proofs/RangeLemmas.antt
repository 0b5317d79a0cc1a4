-- No computed font size and no height of lines is below 0.
use Rattle.std.proofs.Common.{◌≤ℤ◌, ℤ, pos, arith}
use Rattle.bk_num.proofs.UnitLemmas.{part-least}
use Rattle.std.proofs.lemmas.Int.{ints, int_max_is}
use Rattle.bk_num.specs.Lengths.{part}
use Rattle.bk_num.specs.Numbers.{Number}
use Rattle.style.specs.declared.values.FontSize.{FontSize}
use Rattle.style.specs.declared.values.FontSize.TheVariants as size
use Rattle.style.specs.declared.values.GivenHeight.{GivenHeight}
use Rattle.style.specs.declared.values.GivenHeight.TheVariants as given_height
use Rattle.style.specs.declared.values.LineHeight.{LineHeight}
use Rattle.style.specs.declared.values.LineHeight.TheVariants as height
use Rattle.style.specs.declared.long.Given.{Given}
use Rattle.style.specs.declared.long.Given.TheVariants as given
use Rattle.computed_values.specs.Values.{given_by, held, units_of, size_of, height_of, used_line_height}
use Rattle.style.specs.Ranges.{IsHeight}

pub held_least : (z : ℤ) → pos 0 ≤ℤ held z
held_least z = omega (arith, ints, int_max_is z (pos 0))

-- what a declaration gives is in a range where each computed value, the parent's and the initial one are
pub given_in : {A B : Type 0} (P : B → Type 0) (f : A → B) (g : Given A) (inherited initial : B) → ((v : A) → P (f v)) → P inherited → P initial → P (given_by f g inherited initial)
given_in P f (given.Value v) inherited initial h p i = h v
given_in P f given.Inherit inherited initial h p i = p
given_in P f given.Initial inherited initial h p i = i

pub size_least : (parent root : ℤ) (s : FontSize) → pos 0 ≤ℤ size_of parent root s
size_least parent root (size.Size m) = held_least (units_of parent root parent m)
size_least parent root size.Smaller = held_least (part (record { units = pos 5; places = 0 }) parent 6)
size_least parent root size.Larger = held_least (part (record { units = pos 6; places = 0 }) parent 5)

pub height_least : (font root : ℤ) (h : GivenHeight) → IsHeight (height_of font root h)
height_least font root (given_height.Number d) = held_least d.units
height_least font root (given_height.Size m) = held_least (units_of font root font m)

-- ---- heights of lines

pub used_least : (size : ℤ) (h : LineHeight) → pos 0 ≤ℤ size → IsHeight h → pos 0 ≤ℤ used_line_height size h
used_least size (height.Number d) l r = part-least d size 1 r l
used_least size (height.Px p) l r = r
