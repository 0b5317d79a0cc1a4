-- The token at the start of a text: its kind, and its length in bytes.
use Rattle.std.specs.Prelude.{ℕ, ◌+◌, ◌&&◌, if◌then◌else◌, ◌==◌, nat_lt, List, drop, take, length, slice_index, codes}
use Rattle.std.specs.Str.{str_eq_ignore_ascii_case, bytes_eq}
use Rattle.css_tok.specs.declared.kind.CssKind.{CssKind}
use Rattle.css_tok.specs.declared.kind.CssKind.TheVariants as kind
use Rattle.css_tok.specs.declared.lengths.Class.TheVariants as class
use Rattle.bk_num.specs.Chars.{is_quote}
use Rattle.css_tok.specs.Lengths.{is_newline, is_blank, run_len, ident_len, number_len, comment_len}

-- a string: to its closing quote or to the end; a bad one ends before a newline (css-syntax, 4.3.5)
unfoldable pub string_at : List ℕ → CssKind × ℕ
string_at bs =
    let n = run_len (class.Quoted (slice_index bs 0)) (drop 1 bs) in
    if n + 1 == length bs then (kind.Str, n + 1) else (if is_newline (slice_index bs (n + 1)) then (kind.BadStr, n + 1)
    else (kind.Str, n + 2))

-- a number, a percentage or a dimension (css-syntax, 4.3.3)
unfoldable pub numeric_at : List ℕ → CssKind × ℕ
numeric_at bs =
    let n = number_len bs in
    if slice_index bs n == 37 then (kind.Percent, n + 1) else
    (if ident_len (drop n bs) == 0 then (kind.Number, n) else (kind.Dimension, n + ident_len (drop n bs)))

-- `url(`, white space, characters of an address, white space, `)`; or 0
unfoldable pub url_len : List ℕ → ℕ
url_len bs =
    let a = 4 + run_len class.Blank (drop 4 bs) in
    let b = a + run_len class.Address (drop a bs) in
    let e = b + run_len class.Blank (drop b bs) in
    if str_eq_ignore_ascii_case (take 4 bs) (codes "url(") && slice_index bs e == 41 then e + 1 else 0

-- a name, a function, a url or one character (css-syntax, 4.3.4)
unfoldable pub word_at : List ℕ → CssKind × ℕ
word_at bs =
    let n = ident_len bs in
    if n == 0 then (kind.Delim, 1) else (if slice_index bs n == 40
    then (if url_len bs == 0 then (kind.Func, n + 1) else (kind.Url, url_len bs)) else (kind.Ident, n))

-- `<!--`, `-->`, an at keyword, a hash, or what a name or a number begins
unfoldable pub sign_at : List ℕ → CssKind × ℕ
sign_at bs =
    if bytes_eq (take 4 bs) (codes "<!--") then (kind.Cdo, 4)
    else (if bytes_eq (take 3 bs) (codes "-->") then (kind.Cdc, 3)
    else (if slice_index bs 0 == 64 && nat_lt 0 (ident_len (drop 1 bs)) then (kind.At, 1 + ident_len (drop 1 bs))
    else (if slice_index bs 0 == 35 && nat_lt 0 (run_len class.Name (drop 1 bs))
    then (kind.Hash, 1 + run_len class.Name (drop 1 bs)) else word_at bs)))

-- the token at the start of these bytes (css-syntax, 4.3.1): its kind and its length
unfoldable pub token_at : List ℕ → CssKind × ℕ
token_at bs =
    let b = slice_index bs 0 in
    if is_blank b then (kind.Space, run_len class.Blank bs) else (if is_quote b then string_at bs
    else (if b == 47 && slice_index bs 1 == 42 then (kind.Comment, 2 + comment_len (drop 2 bs))
    else (if nat_lt 0 (number_len bs) then numeric_at bs else sign_at bs)))
