-- Lengths and percentages (CSS 2.1, 4.3.2 and 4.3.3).
use Rattle.std.specs.Prelude.{◌==◌, Bool, true, false, not, ◌&&◌, if◌then◌else◌, codes, Option, Some, None, option_map, pos, unsigned_abs, int_lt}
use Rattle.bk_num.specs.Lengths.{part, units_per}
use Rattle.bk_num.specs.Numbers.{Number}
use Rattle.css_tok.specs.declared.kind.CssKind.TheVariants as kind
use Rattle.css_tok.specs.Numbers.{is_numeric_kind, decimal_of, unit_of}
use Rattle.css_tok.specs.Tokens.{Item}
use Rattle.css_words.specs.Parser.{Parser, ◌>>=◌, ◌>>◌, pure, refuse, on_some, peek, advance}
use Rattle.css_words.specs.Table.{find_word}
use Rattle.css_words.specs.Words.{of_kind, is_named}
use Rattle.style.specs.declared.values.Measure.{Measure}
use Rattle.style.specs.declared.values.Measure.TheVariants as measure
use Rattle.css_values.specs.Words.{scales}
use Rattle.css_values.specs.declared.measures.Scale.{Scale}
use Rattle.css_values.specs.declared.measures.Scale.TheVariants as scale
use Rattle.css_values.specs.declared.measures.Taken.{Taken}

-- the number of a token that has one
unfoldable pub number_of : Option Item → Option Number
number_of None = None
number_of (Some t) = if is_numeric_kind t.kind then Some (decimal_of t.slice) else None

-- an absolute length in 1/64 px, to the nearest, or a number of a font's sizes
unfoldable pub measured : Scale → Number → Measure
measured (scale.Absolute u) n = measure.Px (part n (pos (units_per u).0) (units_per u).1)
measured scale.Em n = measure.Em n
measured scale.Rem n = measure.Rem n
measured scale.Ex n = measure.Ex n

-- whether a number is 0
abbrev pub is_zero : Number → Bool
is_zero n = unsigned_abs n.units == 0

-- the length 0
abbrev pub no_length : Measure
no_length = measure.Px (pos 0)

-- a number with a unit, or the number 0
unfoldable pub length_of : Option Item → Option Measure
length_of None = None
length_of (Some t) =
    if of_kind kind.Number (Some t) then (if is_zero (decimal_of t.slice) then Some no_length else None)
    else (if of_kind kind.Dimension (Some t) then
    option_map (λ s. measured s (decimal_of t.slice)) (find_word scales (unit_of t.slice)) else None)

-- a percentage
unfoldable pub percent_of : Option Item → Option Measure
percent_of None = None
percent_of (Some t) = if of_kind kind.Percent (Some t) then Some (measure.Percent (decimal_of t.slice)) else None

-- whether a number is there and is below 0
abbrev pub below_zero : Option Number → Bool
below_zero None = false
below_zero (Some n) = int_lt n.units (pos 0)

-- a number below 0 is judged before it is rounded
unfoldable pub is_negative : Option Item → Bool
is_negative t = below_zero (number_of t)

-- the first of two that is there
abbrev pub first_some : Option Measure → Option Measure → Option Measure
first_some (Some m) other = Some m
first_some None other = other

-- what a token is, of what a property takes
unfoldable pub measure_of : Taken → Option Item → Option Measure
measure_of r t =
    if r.auto && is_named kind.Ident t (codes "auto") then Some measure.Auto
    else (if not r.negative && is_negative t then None
    else first_some (length_of t) (if r.percents then percent_of t else None))

-- a length, and what else a property takes
unfoldable pub read_measure : Taken → Parser Measure
read_measure r = do
  t ← peek
  on_some (measure_of r t) refuse (λ m. advance >> pure m)

-- what a property takes beside lengths from 0 on: percentages, `auto`, lengths below 0
abbrev pub taken : Bool → Bool → Bool → Taken
taken percents auto negative = record { percents = percents; auto = auto; negative = negative }

-- margins (CSS 2.1, 8.3)
abbrev pub margins : Taken
margins = taken true true true

-- `text-indent` (CSS 2.1, 16.1)
abbrev pub indents : Taken
indents = taken true false true

-- `width` (CSS 2.1, 10.2)
abbrev pub widths : Taken
widths = taken true true false

-- paddings, sizes of fonts and heights of lines (CSS 2.1, 8.4, 15.7 and 10.8.1)
abbrev pub paddings : Taken
paddings = taken true false false

-- widths of borders, and sizes of pages (CSS 2.1, 8.5.1; css-page-3, 7.1)
abbrev pub lengths : Taken
lengths = taken false false false
