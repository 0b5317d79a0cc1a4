-- How long what stands at the start of a text is, in bytes. A place past the end reads as 0.
use Rattle.std.specs.Prelude.{ℕ, zero, suc, ◌+◌, Bool, not, ◌&&◌, ◌||◌, if◌then◌else◌, ◌==◌, nat_le, nat_lt, List, [], ◌∷◌, take, drop, slice_index}
use Rattle.std.specs.Char.{is_ascii_digit, is_ascii_hexdigit, is_ascii_alphanumeric}
use Rattle.std.specs.List.{prefix_len}
use Rattle.css_tok.specs.declared.lengths.Class.{Class}
use Rattle.css_tok.specs.declared.lengths.Class.TheVariants as class

-- a newline (css-syntax, 4.2): LF, FF or CR
abbrev pub is_newline : ℕ → Bool
is_newline b = b == 10 || b == 12 || b == 13

-- white space: a space, a tab or a newline (css-syntax-3, 4.2). CR and FF count, which CSS reads as newlines (3.3), so
-- these are the five characters of ASCII white space in HTML (`is_ascii_whitespace`; HTML, "ASCII whitespace")
abbrev pub is_blank : ℕ → Bool
is_blank b = b == 32 || b == 9 || is_newline b

-- a byte of a name character that is no escape
abbrev pub is_name : ℕ → Bool
is_name b = is_ascii_alphanumeric b || b == 95 || b == 45 || nat_le 128 b

-- what an address without quotes has: no white space, quote, bracket or control
abbrev pub is_address : ℕ → Bool
is_address b = not (nat_le b 32 || b == 127 || b == 34 || b == 39 || b == 40 || b == 41)

-- one newline, where CR LF is one
unfoldable pub newline_len : List ℕ → ℕ
newline_len bs =
    if slice_index bs 0 == 13 && slice_index bs 1 == 10 then 2 else (if is_newline (slice_index bs 0) then 1 else 0)

-- one white space
unfoldable pub blank_len : List ℕ → ℕ
blank_len bs = if slice_index bs 0 == 32 || slice_index bs 0 == 9 then 1 else newline_len bs

-- one to six hexadecimal digits
unfoldable pub hex_len : List ℕ → ℕ
hex_len bs = prefix_len is_ascii_hexdigit (take 6 bs)

-- What follows a `\`, or 0 where the two are no escape. Of a character from U+0080 on it is the first byte.
unfoldable pub escape_len : List ℕ → ℕ
escape_len [] = 0
escape_len (b ∷ bs) = if is_ascii_hexdigit b then hex_len (b ∷ bs) + blank_len (drop (hex_len (b ∷ bs)) (b ∷ bs))
    else (if is_newline b then 0 else 1)

-- an escape's length with the backslash before it
abbrev pub with_backslash : ℕ → ℕ
with_backslash n = if n == 0 then 0 else 1 + n

-- what may follow a `\` in a string: a newline, an escape or nothing
abbrev pub quoted_len : List ℕ → ℕ
quoted_len bs = if newline_len bs == 0 then escape_len bs else newline_len bs

-- the next unit of a run of a class, or 0 where the run ends
unfoldable pub unit_len : Class → List ℕ → ℕ
unit_len c [] = 0
unit_len class.Name (b ∷ bs) = if is_name b then 1 else (if b == 92 then with_backslash (escape_len bs) else 0)
unit_len class.Plain (b ∷ bs) = if b == 92 then 0 else 1
unit_len class.Digit (b ∷ bs) = if is_ascii_digit b then 1 else 0
unit_len class.Blank (b ∷ bs) = if is_blank b then 1 else 0
unit_len class.Address (b ∷ bs) = if is_address b then 1 else 0
unit_len (class.Quoted q) (b ∷ bs) = if b == q || is_newline b then 0 else (if b == 92 then suc (quoted_len bs) else 1)

-- one less, where there is one
abbrev pub one_less : ℕ → ℕ
one_less zero = zero
one_less (suc n) = n

-- a length to which the first character belongs, where it has one
abbrev pub with_first : ℕ → ℕ → ℕ
with_first zero n = 0
with_first (suc unit) n = suc n

-- The longest run of units. The number counts the bytes that are left of one.
unfoldable pub run_from : Class → ℕ → List ℕ → ℕ
run_from c left [] = 0
run_from c (suc left) (b ∷ bs) = suc (run_from c left bs)
run_from c zero (b ∷ bs) = with_first (unit_len c (b ∷ bs)) (run_from c (one_less (unit_len c (b ∷ bs))) bs)

-- how many bytes of a class, escapes among them, the bytes begin with
abbrev pub run_len : Class → List ℕ → ℕ
run_len c bs = run_from c 0 bs

-- how many hyphens a name begins with: one, or the two of a custom name
unfoldable pub hyphens : List ℕ → ℕ
hyphens bs = if slice_index bs 0 == 45 then (if slice_index bs 1 == 45 then 2 else 1) else 0

-- a name character that is no digit and no `-`
unfoldable pub begins_name : List ℕ → Bool
begins_name bs = not (is_ascii_digit (slice_index bs 0) || slice_index bs 0 == 45) && nat_lt 0 (unit_len class.Name bs)

-- how many bytes the name at the start has (css-syntax, 4.3.11); 0, where none begins
unfoldable pub ident_len : List ℕ → ℕ
ident_len bs = if begins_name (drop (hyphens bs) bs) then hyphens bs + run_len class.Name (drop (hyphens bs) bs) else 0

-- how many bytes the sign at the start has
unfoldable pub sign_len : List ℕ → ℕ
sign_len bs = if slice_index bs 0 == 43 || slice_index bs 0 == 45 then 1 else 0

-- `.` and digits
unfoldable pub fraction_len : List ℕ → ℕ
fraction_len bs = if slice_index bs 0 == 46 then with_backslash (run_len class.Digit (drop 1 bs)) else 0

-- digits, digits `.` digits, or `.` digits
unfoldable pub unsigned_len : List ℕ → ℕ
unsigned_len bs = run_len class.Digit bs + fraction_len (drop (run_len class.Digit bs) bs)

-- how many bytes the number at the start has (css-syntax, 4.3.12); 0, where none begins
unfoldable pub number_len : List ℕ → ℕ
number_len bs =
    if unsigned_len (drop (sign_len bs) bs) == 0 then 0 else sign_len bs + unsigned_len (drop (sign_len bs) bs)

-- up to and with `*/`, or to the end
unfoldable pub comment_len : List ℕ → ℕ
comment_len [] = 0
comment_len (b ∷ bs) = if b == 42 && slice_index bs 0 == 47 then 2 else suc (comment_len bs)
