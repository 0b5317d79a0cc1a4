-- How a line shows the bytes of a text: no control stands as it is.
use Rattle.std.specs.Prelude.{ℕ, Bool, ◌/◌, ◌%◌, List, [], ◌∷◌, nat_lt, ◌==◌, ◌||◌, if◌then◌else◌, codes}
use Rattle.std.specs.Char.{digit_char}

-- two lower-case hexadecimal digits
unfoldable pub hex_pair : ℕ → List ℕ
hex_pair b = digit_char (b / 16) ∷ digit_char (b % 16) ∷ []

-- whether a byte is a control (ASCII)
unfoldable pub is_control : ℕ → Bool
is_control b = nat_lt b 32 || b == 127

-- a byte as it is shown: LF is `\n`, another control `\x` and two digits; what is no control stands as it is
unfoldable pub shown_byte : ℕ → List ℕ
shown_byte b = if b == 10 then codes "\\n" else if is_control b then 92 ∷ 120 ∷ hex_pair b else b ∷ []
