-- What a token is to those who read lists of tokens: a mark, a name, white space, an opening bracket.
use Rattle.std.specs.Prelude.{ℕ, Bool, true, false, if◌then◌else◌, ◌==◌, List, [], ◌∷◌, Option, Some, None, slice_index}
use Rattle.css_tok.specs.declared.kind.CssKind.{CssKind}
use Rattle.css_tok.specs.declared.kind.CssKind.TheVariants as kind
use Rattle.css_tok.specs.Tokens.{Item}

-- the one character of a delimiter, and 0 of each other token
abbrev pub mark_in : CssKind → List ℕ → ℕ
mark_in kind.Delim bs = slice_index bs 0
mark_in _ bs = 0

-- the character of a Delim, and 0 for every other token
unfoldable pub mark : Item → ℕ
mark t = mark_in t.kind t.slice

-- `)` for `(`, `]` for `[` and `}` for `{` (css-syntax, 5.4.8)
abbrev pub closer_of_mark : ℕ → Option ℕ
closer_of_mark b = if b == 40 then Some 41 else (if b == 91 then Some 93 else (if b == 123 then Some 125 else None))

-- what closes a bracket or a function that this token opens
abbrev pub closer_in : CssKind → ℕ → Option ℕ
closer_in kind.Func b = Some 41
closer_in _ b = closer_of_mark b

-- what closes the bracket that a token opens; a function opens one too
unfoldable pub closer_of : Item → Option ℕ
closer_of t = closer_in t.kind (mark t)

-- white space
abbrev pub is_space_kind : CssKind → Bool
is_space_kind kind.Space = true
is_space_kind _ = false

-- a comment
abbrev pub is_comment_kind : CssKind → Bool
is_comment_kind kind.Comment = true
is_comment_kind _ = false

-- white space or a comment
abbrev pub is_gap_kind : CssKind → Bool
is_gap_kind kind.Space = true
is_gap_kind kind.Comment = true
is_gap_kind _ = false

-- white space, or a comment
abbrev pub is_gap : Item → Bool
is_gap t = is_gap_kind t.kind

-- a name
abbrev pub is_ident_kind : CssKind → Bool
is_ident_kind kind.Ident = true
is_ident_kind _ = false

-- ---- lists of tokens

-- the first token
unfoldable pub first_of : List Item → Option Item
first_of [] = None
first_of (t ∷ ts) = Some t

-- the tokens after the first one
unfoldable pub rest_of : List Item → List Item
rest_of [] = []
rest_of (t ∷ ts) = ts

-- the mark of the first token, and 0 at the end
unfoldable pub first_mark : List Item → ℕ
first_mark [] = 0
first_mark (t ∷ ts) = mark t
