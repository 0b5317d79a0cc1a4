-- Colours (CSS 2.1, 4.3.6).
use Rattle.std.specs.Prelude.{ℕ, ◌+◌, ◌*◌, nat_lt, ◌==◌, if◌then◌else◌, List, length, slice_index, codes, Option, Some, None, ℤ, pos, unsigned_abs}
use Rattle.std.specs.Char.{digit_value}
use Rattle.std.specs.Int.{int_max, int_min}
use Rattle.bk_num.specs.declared.values.Color.{Color}
use Rattle.css_tok.specs.declared.kind.CssKind.TheVariants as kind
use Rattle.css_words.specs.Parser.{Parser, ◌>>=◌, ◌>>◌, pure, refuse, on_some, peek, advance}
use Rattle.css_words.specs.Words.{of_kind, is_named, value, expect, close}
use Rattle.css_content.specs.Basics.{word_in, whole}
use Rattle.css_values.specs.Words.{rgb, colors}

-- what a hexadecimal digit stands for
unfoldable pub hex_of : ℕ → Option ℕ
hex_of b = if nat_lt (digit_value b) 16 then Some (digit_value b) else None

-- the number of two digits, the higher one first
abbrev pub both : Option ℕ → Option ℕ → Option ℕ
both None low = None
both (Some high) None = None
both (Some high) (Some low) = Some (16 * high + low)

-- the number that two digits of a text write, by their places
unfoldable pub pair_at : List ℕ → ℕ → ℕ → Option ℕ
pair_at bs i j = both (hex_of (slice_index bs i)) (hex_of (slice_index bs j))

-- a colour of three numbers, where all are there
abbrev pub color_in : Option ℕ → Option ℕ → Option ℕ → Option Color
color_in None g b = None
color_in (Some r) None b = None
color_in (Some r) (Some g) None = None
color_in (Some r) (Some g) (Some b) = Some (rgb r g b)

-- three digits, each standing for two equal ones, or six
unfoldable pub hex_color : List ℕ → Option Color
hex_color bs =
    if length bs == 3 then color_in (pair_at bs 0 0) (pair_at bs 1 1) (pair_at bs 2 2)
    else (if length bs == 6 then color_in (pair_at bs 0 1) (pair_at bs 2 3) (pair_at bs 4 5) else None)

-- a whole number, clamped to 0 and 255
abbrev pub byte_of : ℤ → ℕ
byte_of n = unsigned_abs (int_max (pos 0) (int_min n (pos 255)))

-- the arguments of rgb(): three whole numbers (CSS 2.1, 4.3.6)
unfoldable pub rgb_arguments : Parser Color
rgb_arguments = do
  r ← whole
  _ ← expect 44
  g ← whole
  _ ← expect 44
  b ← whole
  _ ← close
  pure (rgb (byte_of r) (byte_of g) (byte_of b))

-- `#` and digits
unfoldable pub hash : Parser Color
hash = do
  t ← peek
  on_some (hex_color (value t)) refuse (λ c. advance >> pure c)

-- a colour by digits, by numbers, or by its name (CSS 2.1, 4.3.6)
unfoldable pub color : Parser Color
color = do
  t ← peek
  if of_kind kind.Hash t then hash
      else (if is_named kind.Func t (codes "rgb") then (advance >> rgb_arguments) else word_in colors)

-- a word that stands for none, or a colour
unfoldable pub color_or : List ℕ → Parser (Option Color)
color_or word = do
  t ← peek
  if is_named kind.Ident t word then (advance >> pure None) else (color >>= (λ c. pure (Some c)))
