-- Widths of characters and texts that a pen writes.
use Rattle.std.specs.Prelude.{◌≡◌, ℕ, zero, suc, ◌+◌, ◌-◌, ◌^◌, List, [], ◌∷◌, Option, None, Some, min, slice_index, drop, nat_lt, nat_le, ◌==◌, ◌||◌, not, Bool, unsigned_abs, if◌then◌else◌, length}
use Rattle.std.specs.Str.{IsUtf8, chars}
use Rattle.bk_num.specs.Chars.{hyphen, soft_hyphen, zero_width_space}
use Rattle.metrics.specs.Face.{paired_number, scaled}
use Rattle.metrics.specs.Pen.{PenView}

-- a soft hyphen, a zero width space and a newline have no width
unfoldable pub has_width : ℕ → Bool
has_width c = not (c == soft_hyphen || c == zero_width_space || c == 10)

-- the width of a character behind the last one before it, if there is one: its advance by the face at the size, which
-- the pair of both may change
unfoldable pub char_after : PenView → Option ℕ → ℕ → ℕ
char_after p last c =
    if has_width c then unsigned_abs (scaled (paired_number p.face last c) p.size p.face.units) else 0

-- the width of a character with none before it
unfoldable pub char_width : PenView → ℕ → ℕ
char_width p c = char_after p None c

-- whether a character may stand first in a pair: not a soft hyphen and not a zero width space, over which pairs reach
unfoldable pub is_paired : ℕ → Bool
is_paired c = not (c == soft_hyphen || c == zero_width_space)

-- the width of the hyphen that a line shows at its end
unfoldable pub hyphen_width : PenView → ℕ
hyphen_width p = char_width p hyphen

-- whether a byte begins a character (UTF-8)
unfoldable pub is_lead : ℕ → Bool
is_lead b = nat_lt b 128 || nat_le 192 b

-- the character that begins at a place
unfoldable pub char_at : List ℕ → ℕ → ℕ
char_at text k = slice_index (chars (drop k text)) 0

-- the character that a byte begins, if it begins one
unfoldable pub begun_at : List ℕ → ℕ → Option ℕ
begun_at text k = if is_lead (slice_index text k) then Some (char_at text k) else None

-- the last character that may stand first in a pair, with one more behind it
abbrev pub last_with : Option ℕ → Option ℕ → Option ℕ
last_with last None = last
last_with last (Some c) = if is_paired c then Some c else last

-- that of n bytes from a place on
abbrev pub last_from : List ℕ → ℕ → ℕ → Option ℕ
last_from text begin zero = None
last_from text begin (suc n) = last_with (last_from text begin n) (begun_at text (begin + n))

-- the width of a character, if there is one, behind the last one before it
abbrev pub width_after : PenView → Option ℕ → Option ℕ → ℕ
width_after p last None = 0
width_after p last (Some c) = char_after p last c

-- what the byte at a place adds to the width of a part of a text that begins at another place: the width of the
-- character that it begins, else nothing
unfoldable pub byte_width : PenView → List ℕ → ℕ → ℕ → ℕ
byte_width p text begin k = width_after p (last_from text begin (k - begin)) (begun_at text k)

-- n places added up, from one on
abbrev pub sum_from : (ℕ → ℕ) → ℕ → ℕ → ℕ
sum_from at a zero = 0
sum_from at a (suc n) = sum_from at a n + at (a + n)

-- the width of a text, the spaces at its end too; above 2^60 units it counts as 2^60
unfoldable pub text_width : PenView → List ℕ → ℕ
text_width p text = min (sum_from (byte_width p text 0) 0 (length text)) (2 ^ 60)

-- the widths of characters added up, one behind the other
abbrev pub widths_from : PenView → Option ℕ → List ℕ → ℕ
widths_from p last [] = 0
widths_from p last (c ∷ cs) = char_after p last c + widths_from p (last_with last (Some c)) cs

-- the width of a text is that of its characters, one behind the other
abbrev pub TextsAreCharacters : Type 0
TextsAreCharacters = (p : PenView) (text : List ℕ) → IsUtf8 text →
    text_width p text ≡ min (widths_from p None (chars text)) (2 ^ 60)
