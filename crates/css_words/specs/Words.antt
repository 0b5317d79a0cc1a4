-- Tests on the next token, and words (css-syntax, 4).
use Rattle.std.specs.Prelude.{ℕ, Bool, true, false, ◌&&◌, if◌then◌else◌, ◌==◌, List, [], slice_index, Option, Some, None}
use Rattle.std.specs.Str.{str_to_ascii_lowercase}
use Rattle.css_tok.specs.declared.kind.CssKind.{CssKind}
use Rattle.css_tok.specs.declared.kind.CssKind.TheVariants as kind
use Rattle.css_tok.specs.Tokens.{Item}
use Rattle.css_tok.specs.Plain.{plain_of, is_word}
use Rattle.css_tok.specs.Value.{value_slice}
use Rattle.css_words.specs.Parser.{Parser, ◌>>=◌, ◌>>◌, pure, refuse, peek, advance}

-- whether two kinds of tokens are the same
abbrev pub is_kind : CssKind → CssKind → Bool
is_kind kind.Space kind.Space = true
is_kind kind.Comment kind.Comment = true
is_kind kind.Str kind.Str = true
is_kind kind.BadStr kind.BadStr = true
is_kind kind.Ident kind.Ident = true
is_kind kind.Func kind.Func = true
is_kind kind.Url kind.Url = true
is_kind kind.At kind.At = true
is_kind kind.Hash kind.Hash = true
is_kind kind.Number kind.Number = true
is_kind kind.Percent kind.Percent = true
is_kind kind.Dimension kind.Dimension = true
is_kind kind.Cdo kind.Cdo = true
is_kind kind.Cdc kind.Cdc = true
is_kind kind.Delim kind.Delim = true
is_kind _ _ = false

-- a token of this kind
abbrev pub of_kind : CssKind → Option Item → Bool
of_kind k None = false
of_kind k (Some t) = is_kind k t.kind

-- whether no token is left
abbrev pub is_none : Option Item → Bool
is_none None = true
is_none (Some t) = false

-- a token that is this single character
unfoldable pub is_mark : ℕ → Option Item → Bool
is_mark b None = false
is_mark b (Some t) = is_kind kind.Delim t.kind && slice_index t.slice 0 == b

-- the part of a token that its value is written in
abbrev pub slice_of : Option Item → List ℕ
slice_of None = []
slice_of (Some t) = value_slice t.kind t.slice

-- what a name or a string says, its escapes undone
unfoldable pub value : Option Item → List ℕ
value t = plain_of (slice_of t)

-- a token of this kind with this name, ASCII case aside
unfoldable pub is_named : CssKind → Option Item → List ℕ → Bool
is_named k t word = of_kind k t && is_word (slice_of t) word

-- an Ident, as it stands and in lower case
unfoldable pub ident : Parser (List ℕ)
ident = do
  t ← peek
  if of_kind kind.Ident t then (advance >> pure (value t)) else refuse

-- an Ident, if one comes
unfoldable pub next_ident : Parser (Option (List ℕ))
next_ident = do
  t ← peek
  if of_kind kind.Ident t then (advance >> pure (Some (value t))) else pure None

-- an Ident in lower case
unfoldable pub lower_ident : Parser (List ℕ)
lower_ident = do
  t ← peek
  if of_kind kind.Ident t then (advance >> pure (str_to_ascii_lowercase (value t))) else refuse

-- what a string says
unfoldable pub string : Parser (List ℕ)
string = do
  t ← peek
  if of_kind kind.Str t then (advance >> pure (value t)) else refuse

-- this single character
unfoldable pub expect : ℕ → Parser (Unit {0})
expect b = do
  t ← peek
  if is_mark b t then advance else refuse

-- `)`, or the end, which closes all
unfoldable pub close : Parser (Unit {0})
close = do
  t ← peek
  if is_none t then pure tt else expect 41
