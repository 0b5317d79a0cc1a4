-- Lengths of an element's properties in its context.
use Rattle.std.specs.Prelude.{ℤ, pos}
use Rattle.bk_num.specs.declared.length.Len.{Len}
use Rattle.bk_num.specs.declared.sides.BoxSide.TheVariants as side
use Rattle.style.specs.Initial.{initial_indent, initial_margin, initial_padding, initial_width}
use Rattle.style.specs.declared.long.Given.{Given}
use Rattle.style.specs.declared.values.Measure.{Measure}
use Rattle.computed_values.specs.Values.{given_by, held, held_len, len_of, units_of, without_auto}
use Rattle.computed.specs.declared.context.ElementContext.{ElementContext}
use Rattle.computed.specs.declared.values.LengthUse.{LengthUse}
use Rattle.computed.specs.declared.values.LengthUse.TheVariants as use_of

-- a length, a percentage or `auto`
abbrev pub length_in : ElementContext → Measure → Len
length_in c m = len_of c.font_size c.root_size m

-- a length as its property has it: `auto` counts as 0 of a margin above or below (CSS 2.1, 10.6.3), and of a padding
-- and an indent, to which no sheet can give it (8.4 and 16.1); a padding and a width aren't negative (8.4 and 10.2)
abbrev pub length_for : LengthUse → ElementContext → Measure → Len
length_for (use_of.Margin side.Top) c m = without_auto (length_in c m)
length_for (use_of.Margin side.Right) c m = length_in c m
length_for (use_of.Margin side.Bottom) c m = without_auto (length_in c m)
length_for (use_of.Margin side.Left) c m = length_in c m
length_for use_of.Padding c m = held_len (without_auto (length_in c m))
length_for use_of.Width c m = held_len (length_in c m)
length_for use_of.Indent c m = without_auto (length_in c m)

-- the initial length of a property
abbrev pub initial_length : LengthUse → Len
initial_length (use_of.Margin s) = initial_margin
initial_length use_of.Padding = initial_padding
initial_length use_of.Width = initial_width
initial_length use_of.Indent = initial_indent

-- the length that a declaration gives its property
abbrev pub chosen_length : LengthUse → ElementContext → Given Measure → Len → Len
chosen_length u c g inherited = given_by (length_for u c) g inherited (initial_length u)

-- the width of a border, but for its style: never negative (CSS 2.1, 8.5.1)
abbrev pub border_in : ElementContext → Measure → ℤ
border_in c m = held (units_of c.font_size c.root_size (pos 0) m)
