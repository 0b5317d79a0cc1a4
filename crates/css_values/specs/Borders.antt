-- Values of borders (CSS 2.1, 8.5).
use Rattle.std.specs.Prelude.{Bool, ◌||◌, if◌then◌else◌, codes, Option, Some, None, ℤ, is_some}
use Rattle.bk_num.specs.Units.{clamped}
use Rattle.bk_num.specs.declared.values.Color.{Color}
use Rattle.css_tok.specs.declared.kind.CssKind.TheVariants as kind
use Rattle.css_tok.specs.Tokens.{Item}
use Rattle.css_words.specs.Parser.{Parser, ◌>>=◌, ◌>>◌, pure, refuse, on_some, peek, advance}
use Rattle.css_words.specs.Table.{find_word}
use Rattle.css_words.specs.Words.{of_kind, is_none, slice_of}
use Rattle.style.specs.declared.values.BorderStyle.{BorderStyle}
use Rattle.style.specs.declared.values.Measure.{Measure}
use Rattle.style.specs.declared.values.Measure.TheVariants as measure
use Rattle.css_values.specs.Words.{border_widths, border_styles}
use Rattle.css_values.specs.Measures.{read_measure, lengths}
use Rattle.css_values.specs.Colors.{color_or}
use Rattle.css_values.specs.declared.borders.BorderPart.{BorderPart}
use Rattle.css_values.specs.declared.borders.BorderPart.TheVariants as part
use Rattle.css_values.specs.declared.borders.Border.{Border}

-- the width that a word names, in units
unfoldable pub width_word : Option Item → Option ℤ
width_word t = if of_kind kind.Ident t then find_word border_widths (slice_of t) else None

-- the style that a word names
unfoldable pub style_word : Option Item → Option BorderStyle
style_word t = if of_kind kind.Ident t then find_word border_styles (slice_of t) else None

-- a width: a word or a length (CSS 2.1, 8.5.1)
unfoldable pub border_width : Parser Measure
border_width = do
  t ← peek
  on_some (width_word t) (read_measure lengths) (λ u. advance >> pure (measure.Px (clamped u)))

-- a style (CSS 2.1, 8.5.3)
unfoldable pub border_style : Parser BorderStyle
border_style = do
  t ← peek
  on_some (style_word t) refuse (λ s. advance >> pure s)

-- a colour; none is the element's own (CSS 2.1, 8.5.2)
abbrev pub border_color : Parser (Option Color)
border_color = color_or (codes "currentcolor")

-- what begins a width: a number, with or without a unit, or one of its words
unfoldable pub is_width : Option Item → Bool
is_width t = of_kind kind.Number t || of_kind kind.Dimension t || is_some (width_word t)

-- one of the three values of a border
unfoldable pub border_part : Parser BorderPart
border_part = do
  t ← peek
  if is_width t then (border_width >>= (λ m. pure (part.Width m)))
      else (if is_some (style_word t) then (border_style >>= (λ s. pure (part.Style s)))
      else (border_color >>= (λ c. pure (part.Color c))))

-- a border without values
abbrev pub no_border : Border
no_border = record { width = None; style = None; color = None }

-- a border with one value more; none where it has such a value
unfoldable pub with_part : Border → BorderPart → Option Border
with_part b (part.Width m) = if is_some b.width then None else Some (record b { width = Some m })
with_part b (part.Style s) = if is_some b.style then None else Some (record b { style = Some s })
with_part b (part.Color c) = if is_some b.color then None else Some (record b { color = Some c })

-- one value more, of those that a border doesn't have
unfoldable pub add_part : Border → Parser Border
add_part b = do
  p ← border_part
  on_some (with_part b p) refuse pure

-- the same, or nothing at the end
unfoldable pub add_next : Border → Parser Border
add_next b = do
  t ← peek
  if is_none t then pure b else add_part b

-- at most two values more
unfoldable pub add_two : Border → Parser Border
add_two b = add_next b >>= add_next

-- a width, a style and a colour in any order, each at most once and at least one
unfoldable pub border : Parser Border
border = add_part no_border >>= add_two
