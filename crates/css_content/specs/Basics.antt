-- Values that several properties have: words of a table, whole numbers, values in a row.
use Rattle.std.specs.Prelude.{ℕ, ◌==◌, ◌&&◌, if◌then◌else◌, List, Option, Some, None, ℤ}
use Rattle.css_tok.specs.declared.kind.CssKind.TheVariants as kind
use Rattle.css_tok.specs.Numbers.{decimal_of}
use Rattle.css_tok.specs.Tokens.{Item}
use Rattle.css_words.specs.Parser.{Parser, ◌>>=◌, ◌>>◌, pure, refuse, on_some, peek, advance}
use Rattle.css_words.specs.Table.{find_word}
use Rattle.css_words.specs.Words.{is_mark, of_kind, slice_of}

-- an Ident that a table has, and what it stands for
unfoldable pub word_in : {A : Type 0} → List (List ℕ × A) → Parser A
word_in rows = do
  t ← peek
  on_some (if of_kind kind.Ident t then find_word rows (slice_of t) else None) refuse (λ a. advance >> pure a)

-- a comma and a word of a table, or the value that stands for none
unfoldable pub word_argument : {A : Type 0} → List (List ℕ × A) → A → Parser A
word_argument rows other = do
  t ← peek
  if is_mark 44 t then (advance >> word_in rows) else pure other

-- a whole number: a Number without a point, and so without decimals (css-syntax, 4.3.12)
unfoldable pub whole_of : Option Item → Option ℤ
whole_of None = None
whole_of (Some t) =
    if of_kind kind.Number (Some t) && (decimal_of t.slice).places == 0 then Some (decimal_of t.slice).units else None

-- a whole number
unfoldable pub whole : Parser ℤ
whole = do
  t ← peek
  on_some (whole_of t) refuse (λ n. advance >> pure n)
