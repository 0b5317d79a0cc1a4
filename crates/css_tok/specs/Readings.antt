-- How long a reading of each kind at the start of a text is, each by its own grammar, and 0 where none stands there
-- (CSS 2.1, 4.1.1). Of these the longest counts.
use Rattle.std.specs.Prelude.{◌≡◌, ◌⊎◌, ℕ, ◌+◌, ◌<◌, ◌≤◌, ◌&&◌, ◌||◌, if◌then◌else◌, ◌==◌, List, drop, take, length, slice_index, codes}
use Rattle.std.specs.Str.{bytes_eq}
use Rattle.css_tok.specs.declared.kind.CssKind.{CssKind}
use Rattle.css_tok.specs.declared.kind.CssKind.TheVariants as kind
use Rattle.css_tok.specs.declared.lengths.Class.TheVariants as class
use Rattle.bk_num.specs.Chars.{is_quote}
use Rattle.css_tok.specs.Lengths.{is_newline, run_len, ident_len, number_len, comment_len}
use Rattle.css_tok.specs.Kind.{url_len, token_at}

-- a part that isn't empty, and this byte after it
abbrev pub part_byte : ℕ → ℕ → List ℕ → ℕ
part_byte n b bs = if n == 0 then 0 else if slice_index bs n == b then n + 1 else 0

-- this byte, and a part after it that isn't empty
abbrev pub byte_part : ℕ → ℕ → List ℕ → ℕ
byte_part b n bs = if slice_index bs 0 == b then (if n == 0 then 0 else 1 + n) else 0

-- two parts, neither of them empty
abbrev pub two_parts : ℕ → ℕ → ℕ
two_parts n m = if n == 0 || m == 0 then 0 else n + m

-- this text
abbrev pub word_len : List ℕ → List ℕ → ℕ
word_len word bs = if bytes_eq (take (length word) bs) word then length word else 0

-- what stands between a quote and its closing one, a bare newline or the end
abbrev pub quoted_run : List ℕ → ℕ
quoted_run bs = run_len (class.Quoted (slice_index bs 0)) (drop 1 bs)

-- through the closing quote, or to the end
abbrev pub string_len : List ℕ → ℕ
string_len bs = if is_quote (slice_index bs 0) then (if quoted_run bs + 1 == length bs then quoted_run bs + 1
    else if slice_index bs (quoted_run bs + 1) == slice_index bs 0 then quoted_run bs + 2 else 0) else 0

-- up to a bare newline
abbrev pub bad_string_len : List ℕ → ℕ
bad_string_len bs =
    if is_quote (slice_index bs 0) && is_newline (slice_index bs (quoted_run bs + 1)) then quoted_run bs + 1 else 0

-- how many bytes a token of this kind has, told of each kind by itself; 0, where none begins
abbrev pub reading_len : CssKind → List ℕ → ℕ
reading_len kind.Space bs = run_len class.Blank bs
reading_len kind.Comment bs =
    if slice_index bs 0 == 47 && slice_index bs 1 == 42 then 2 + comment_len (drop 2 bs) else 0
reading_len kind.Str bs = string_len bs
reading_len kind.BadStr bs = bad_string_len bs
reading_len kind.Ident bs = ident_len bs
reading_len kind.Func bs = part_byte (ident_len bs) 40 bs
reading_len kind.Url bs = url_len bs
reading_len kind.At bs = byte_part 64 (ident_len (drop 1 bs)) bs
reading_len kind.Hash bs = byte_part 35 (run_len class.Name (drop 1 bs)) bs
reading_len kind.Number bs = number_len bs
reading_len kind.Percent bs = part_byte (number_len bs) 37 bs
reading_len kind.Dimension bs = two_parts (number_len bs) (ident_len (drop (number_len bs) bs))
reading_len kind.Cdo bs = word_len (codes "<!--") bs
reading_len kind.Cdc bs = word_len (codes "-->") bs
reading_len kind.Delim bs = if length bs == 0 then 0 else 1

-- ---- laws

-- no kind has a longer reading than the token at the start of a text
abbrev pub NoneIsLonger : Type 0
NoneIsLonger = (k : CssKind) (bs : List ℕ) → reading_len k bs ≤ (token_at bs).1

-- and the token is a reading of its own kind
abbrev pub TokenIsReading : Type 0
TokenIsReading = (bs : List ℕ) → 0 < length bs → reading_len (token_at bs).0 bs ≡ (token_at bs).1

-- no other kind has a reading of its length, but for a single character, which is a `Delim` where it is nothing else
abbrev pub OnlyDelimTies : Type 0
OnlyDelimTies = (k : CssKind) (bs : List ℕ) → 0 < length bs → reading_len k bs ≡ (token_at bs).1 →
    (k ≡ (token_at bs).0) ⊎ (k ≡ kind.Delim)
