-- Computed values of declared ones (CSS 2.1, 6.1.2). A value out of its property's range is held at the nearest one in
-- it.
use Rattle.std.specs.Prelude.{ℕ, ◌+◌, ◌-◌, min, max, ℤ, pos, Bool, true, false, Option, None, Some, if◌then◌else◌}
use Rattle.std.specs.Int.{int_max}
use Rattle.bk_num.specs.Numbers.{Number}
use Rattle.bk_num.specs.Lengths.{part}
use Rattle.bk_num.specs.declared.length.Len.{Len}
use Rattle.bk_num.specs.declared.length.Len.TheVariants as len
use Rattle.bk_num.specs.declared.values.Color.{Color}
use Rattle.style.specs.declared.values.Measure.{Measure}
use Rattle.style.specs.declared.values.Measure.TheVariants as measure
use Rattle.style.specs.declared.values.BorderStyle.{BorderStyle}
use Rattle.style.specs.declared.values.BorderStyle.TheVariants as border
use Rattle.style.specs.declared.values.FontSize.{FontSize}
use Rattle.style.specs.declared.values.FontSize.TheVariants as size
use Rattle.style.specs.declared.values.Weight.{Weight}
use Rattle.style.specs.declared.values.Weight.TheVariants as weight
use Rattle.style.specs.declared.values.LineHeight.{LineHeight}
use Rattle.style.specs.declared.values.LineHeight.TheVariants as height
use Rattle.style.specs.declared.values.GivenHeight.{GivenHeight}
use Rattle.style.specs.declared.values.GivenHeight.TheVariants as given_height
use Rattle.style.specs.declared.long.Given.{Given}
use Rattle.style.specs.declared.long.Given.TheVariants as given
use Rattle.style.specs.Initial.{zero_len}

-- what a declaration gives, where a declared value is computed so
abbrev pub given_by : {A B : Type 0} → (A → B) → Given A → B → B → B
given_by computed (given.Value v) inherited initial = computed v
given_by computed given.Inherit inherited initial = inherited
given_by computed given.Initial inherited initial = initial

-- a value that is computed as declared
abbrev pub same : {A : Type 0} → A → A
same v = v

-- at least 0
abbrev pub held : ℤ → ℤ
held z = int_max z (pos 0)

-- a number, at least 0
abbrev pub held_number : Number → Number
held_number d = record { units = held d.units; places = d.places }

-- a length of the font size `font` and of the root's: an `ex` is half an `em` (CSS 2.1, 4.3.2; css-values-3, 5.1.1); a
-- percentage is of `base`, over 100
abbrev pub units_of : ℤ → ℤ → ℤ → Measure → ℤ
units_of font root base (measure.Px p) = p
units_of font root base (measure.Em d) = part d font 1
units_of font root base (measure.Rem d) = part d root 1
units_of font root base (measure.Ex d) = part d font 2
units_of font root base (measure.Percent d) = part d base 100
units_of font root base measure.Auto = base

-- a length, a percentage or `auto` as a style has it
abbrev pub len_of : ℤ → ℤ → Measure → Len
len_of font root (measure.Percent d) = len.Percent d
len_of font root measure.Auto = len.Auto
len_of font root m = len.Px (units_of font root (pos 0) m)

-- `auto` as 0: of a margin above or below (CSS 2.1, 10.6.3), and of an indent, for which no sheet can give it (16.1)
abbrev pub without_auto : Len → Len
without_auto len.Auto = zero_len
without_auto (len.Px p) = len.Px p
without_auto (len.Percent d) = len.Percent d

-- a length or a percentage, at least 0
abbrev pub held_len : Len → Len
held_len len.Auto = len.Auto
held_len (len.Px p) = len.Px (held p)
held_len (len.Percent d) = len.Percent (held_number d)

-- a border whose style is none or hidden has no width (CSS 2.1, 8.5.1)
abbrev pub is_painted : BorderStyle → Bool
is_painted border.Off = false
is_painted border.Hidden = false
is_painted border.Solid = true

-- the used width of a border of a style
abbrev pub width_of : BorderStyle → ℤ → ℤ
width_of style width = if is_painted style then width else pos 0

-- a font size: `em`, `ex` and percentages are of the parent's; `smaller` is 5/6 of it and `larger` 6/5 (CSS 2.1, 15.7)
abbrev pub size_of : ℤ → ℤ → FontSize → ℤ
size_of parent root (size.Size m) = held (units_of parent root parent m)
size_of parent root size.Smaller = held (part (record { units = pos 5; places = 0 }) parent 6)
size_of parent root size.Larger = held (part (record { units = pos 6; places = 0 }) parent 5)

-- a weight: `bolder` is 300 more, at most 900, and `lighter` 300 less, at least 100 (CSS 2.1, 15.6)
abbrev pub weight_of : ℕ → Weight → ℕ
weight_of parent (weight.Number n) = n
weight_of parent weight.Bolder = min (parent + 300) 900
weight_of parent weight.Lighter = max (parent - 300) 100

-- a height of lines: a number stays one, and a percentage is of the element's own font size (CSS 2.1, 10.8.1)
abbrev pub height_of : ℤ → ℤ → GivenHeight → LineHeight
height_of font root (given_height.Number d) = height.Number (held_number d)
height_of font root (given_height.Size m) = height.Px (held (units_of font root font m))

-- the used height of lines: a number is of the font size (CSS 2.1, 10.8.1)
abbrev pub used_line_height : ℤ → LineHeight → ℤ
used_line_height size (height.Number d) = part d size 1
used_line_height size (height.Px h) = h

-- `currentcolor` is the element's color (css-color-3, 4.4)
abbrev pub color_of : Color → Option Color → Color
color_of own None = own
color_of own (Some c) = c
