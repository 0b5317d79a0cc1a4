-- The number that a Number, Percent or Dimension token begins with (css-syntax, 4.3.13), as a decimal number.
use Rattle.std.specs.Prelude.{ℕ, ◌+◌, ◌*◌, ◌^◌, Bool, true, false, ◌==◌, if◌then◌else◌, List, [], length, take, drop, slice_index, min, ℤ, pos, neg_ℤ}
use Rattle.std.specs.Str.Parse.{digits_value}
use Rattle.bk_num.specs.Numbers.{Number}
use Rattle.bk_num.specs.Written.{most_whole}
use Rattle.css_tok.specs.declared.kind.CssKind.{CssKind}
use Rattle.css_tok.specs.declared.kind.CssKind.TheVariants as kind
use Rattle.css_tok.specs.declared.lengths.Class.TheVariants as class
use Rattle.css_tok.specs.Lengths.{run_len, sign_len, number_len}

-- a number, a percentage or a dimension
abbrev pub is_numeric_kind : CssKind → Bool
is_numeric_kind kind.Number = true
is_numeric_kind kind.Percent = true
is_numeric_kind kind.Dimension = true
is_numeric_kind _ = false

-- the digits at the start of a text, and what follows them
abbrev pub digits_at : List ℕ → List ℕ
digits_at bs = take (run_len class.Digit bs) bs

-- what follows the digits at the start
abbrev pub past_digits : List ℕ → List ℕ
past_digits bs = drop (run_len class.Digit bs) bs

-- the digits after the point; those after the sixth are dropped
unfoldable pub decimals : List ℕ → List ℕ
decimals bs = if slice_index (past_digits bs) 0 == 46 then take 6 (digits_at (drop 1 (past_digits bs))) else []

-- the value of digits, up to the most that is held
abbrev pub whole_of : List ℕ → ℕ
whole_of digits = min most_whole (digits_value 10 digits)

-- whether the sign is `-`
abbrev pub is_minus : List ℕ → Bool
is_minus bs = slice_index bs 0 == 45

-- what follows the sign
abbrev pub unsigned : List ℕ → List ℕ
unsigned bs = drop (sign_len bs) bs

-- a number with its sign
abbrev pub signed : Bool → ℕ → ℤ
signed minus n = if minus then neg_ℤ (pos n) else pos n

-- whole and decimals over ten to the power of the count of decimals
abbrev pub scaled : List ℕ → List ℕ → ℕ
scaled whole part = whole_of whole * 10 ^ length part + digits_value 10 part

-- The number at the start of a text. It has as many places as decimals are written, up to six.
unfoldable pub decimal_of : List ℕ → Number
decimal_of bs = record {
  units = signed (is_minus bs) (scaled (digits_at (unsigned bs)) (decimals (unsigned bs)));
  places = length (decimals (unsigned bs));
}

-- what follows the number: the unit of a Dimension, its escapes as they stand
unfoldable pub unit_of : List ℕ → List ℕ
unit_of bs = drop (number_len bs) bs
