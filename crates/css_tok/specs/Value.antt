-- The part of a token that its value is written in (css-syntax, 4).
use Rattle.std.specs.Prelude.{ℕ, ◌-◌, ◌&&◌, if◌then◌else◌, ◌==◌, List, take, drop, length, slice_index, codes}
use Rattle.std.specs.Str.{str_eq_ignore_ascii_case}
use Rattle.css_tok.specs.declared.kind.CssKind.{CssKind}
use Rattle.css_tok.specs.declared.kind.CssKind.TheVariants as kind
use Rattle.css_tok.specs.declared.lengths.Class.TheVariants as class
use Rattle.bk_num.specs.Chars.{is_quote}
use Rattle.css_tok.specs.Lengths.{run_len}

-- without its first byte, where that is this one
abbrev pub without_first : ℕ → List ℕ → List ℕ
without_first b bs = if slice_index bs 0 == b then drop 1 bs else bs

-- without its last byte, where that is this one
abbrev pub without_last : ℕ → List ℕ → List ℕ
without_last b bs = if slice_index bs (length bs - 1) == b then take (length bs - 1) bs else bs

-- what stands after a quote, up to the one that closes it
unfoldable pub in_quotes : List ℕ → List ℕ
in_quotes bs =
    if is_quote (slice_index bs 0) then take (run_len (class.Quoted (slice_index bs 0)) (drop 1 bs)) (drop 1 bs) else bs

-- what follows the white space at the start
unfoldable pub past_blanks : List ℕ → List ℕ
past_blanks bs = drop (run_len class.Blank bs) bs

-- the address between `url(` and `)`, without white space round it
unfoldable pub address : List ℕ → List ℕ
address bs = if slice_index bs 3 == 40 && str_eq_ignore_ascii_case (take 3 bs) (codes "url")
    then take (run_len class.Address (past_blanks (drop 4 bs))) (past_blanks (drop 4 bs)) else bs

-- a name without `@`, `#` or `(`, a string without its quotes, an address; every other token whole
unfoldable pub value_slice : CssKind → List ℕ → List ℕ
value_slice kind.Func bs = without_last 40 bs
value_slice kind.At bs = without_first 64 bs
value_slice kind.Hash bs = without_first 35 bs
value_slice kind.Str bs = in_quotes bs
value_slice kind.Url bs = address bs
value_slice _ bs = bs
