-- The text that the bytes of a token stand for: line ends, U+0000 and character references (HTML, 13.2.3.5 and 13.5).
use Rattle.std.specs.Prelude.{ℕ, zero, suc, ◌+◌, ◌-◌, ◌*◌, Bool, not, List, [], ◌∷◌, ◌++◌, length, take, drop, map, fold, nat_eq, ◌==◌, ◌&&◌, ◌||◌, if◌then◌else◌, slice_index, encode_utf8, codes}
use Rattle.std.specs.List.{starts_with, position_or_len}
use Rattle.std.specs.Char.{is_digit, digit_value, to_ascii_lowercase}
use Rattle.bk_num.specs.Written.{character_of}

-- what a byte becomes before the next one: CR before LF goes, other CR are LF, and U+0000 is U+FFFD
abbrev pub normalized_byte : ℕ → ℕ → List ℕ
normalized_byte b next =
    if b == 13 then (if next == 10 then [] else 10 ∷ []) else if b == 0 then encode_utf8 0xFFFD else b ∷ []

-- bytes with their line ends and U+0000 replaced
unfoldable pub normalized : List ℕ → List ℕ
normalized [] = []
normalized (b ∷ bs) = normalized_byte b (slice_index bs 0) ++ normalized bs

-- the name of an element or of an attribute
abbrev pub name_of : List ℕ → List ℕ
name_of bs = map to_ascii_lowercase (normalized bs)

-- ---- references

-- a reference: its character and how many bytes it has
pub record Reference : Type 0 where
  pub code : ℕ
  pub len : ℕ

-- an `&` that begins no reference
abbrev pub plain : Reference
plain = record { code = 38; len = 1 }

-- the number that digits write
abbrev pub number_of : ℕ → List ℕ → ℕ
number_of base ds = fold (λ v d. v * base + digit_value d) 0 ds

-- how many digits of a base the bytes begin with
abbrev pub digits_len : ℕ → List ℕ → ℕ
digits_len base bs = position_or_len (λ b. not (is_digit b base)) bs

-- a `;` after a reference belongs to it
abbrev pub closing_len : List ℕ → ℕ
closing_len bs = if slice_index bs 0 == 59 then 1 else 0

-- a number in this base after so many bytes
abbrev pub counted : ℕ → ℕ → ℕ → List ℕ → Reference
counted base lead n bs =
    record { code = character_of (number_of base (take n bs)); len = lead + n + closing_len (drop n bs) }

-- a reference by number, where digits come; `&` with its lead else
unfoldable pub numeric : ℕ → ℕ → List ℕ → Reference
numeric base lead bs = if digits_len base bs == 0 then plain else counted base lead (digits_len base bs) bs

-- a name of these rows with its `;`
abbrev pub named : List (List ℕ × ℕ) → List ℕ → Reference
named [] bs = plain
named (r ∷ rows) bs = if starts_with nat_eq bs r.0 && closing_len (drop (length r.0) bs) == 1 then
    record { code = r.1; len = 1 + length r.0 + 1 } else named rows bs

-- the named references that are read: each a name and its character (HTML, 13.5, in part)
unfoldable pub named_references : List (List ℕ × ℕ)
named_references =
    (codes "amp", 0x26) ∷ (codes "lt", 0x3C) ∷ (codes "gt", 0x3E) ∷ (codes "quot", 0x22) ∷
    (codes "apos", 0x27) ∷ (codes "nbsp", 0xA0) ∷ (codes "copy", 0xA9) ∷ (codes "laquo", 0xAB) ∷
    (codes "shy", 0xAD) ∷ (codes "reg", 0xAE) ∷ (codes "deg", 0xB0) ∷ (codes "para", 0xB6) ∷
    (codes "middot", 0xB7) ∷ (codes "raquo", 0xBB) ∷ (codes "sect", 0xA7) ∷ (codes "times", 0xD7) ∷
    (codes "ensp", 0x2002) ∷ (codes "emsp", 0x2003) ∷ (codes "thinsp", 0x2009) ∷ (codes "zwnj", 0x200C) ∷
    (codes "zwj", 0x200D) ∷ (codes "ndash", 0x2013) ∷ (codes "mdash", 0x2014) ∷ (codes "lsquo", 0x2018) ∷
    (codes "rsquo", 0x2019) ∷ (codes "sbquo", 0x201A) ∷ (codes "ldquo", 0x201C) ∷
    (codes "rdquo", 0x201D) ∷ (codes "bdquo", 0x201E) ∷ (codes "dagger", 0x2020) ∷
    (codes "Dagger", 0x2021) ∷ (codes "bull", 0x2022) ∷ (codes "hellip", 0x2026) ∷
    (codes "prime", 0x2032) ∷ (codes "Prime", 0x2033) ∷ (codes "euro", 0x20AC) ∷
    (codes "trade", 0x2122) ∷ []

-- the reference at an `&`: a number in hexadecimal digits, one in decimal digits, or a name
unfoldable pub reference_at : List ℕ → Reference
reference_at bs = if slice_index bs 1 == 35 then
    (if slice_index bs 2 == 120 || slice_index bs 2 == 88 then numeric 16 3 (drop 3 bs)
    else numeric 10 2 (drop 2 bs)) else
    named named_references (drop 1 bs)

-- the text with its references read, where the first n bytes belong to one that is read
unfoldable pub referred_after : ℕ → List ℕ → List ℕ
referred_after n [] = []
referred_after (suc n) (b ∷ bs) = referred_after n bs
referred_after zero (b ∷ bs) =
    if b == 38 then encode_utf8 (reference_at (b ∷ bs)).code ++ referred_after ((reference_at (b ∷ bs)).len - 1) bs else
    b ∷ referred_after 0 bs

-- line ends are normalized first, and then references are read where there are any
unfoldable pub text_of : Bool → List ℕ → List ℕ
text_of references bs = if references then referred_after 0 (normalized bs) else normalized bs
