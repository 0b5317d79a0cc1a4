-- What a token is, by what the rest of the text begins.
use Rattle.std.specs.Prelude.{ℕ, zero, suc, ◌+◌, ◌-◌, nat_le, Bool, true, false, not, List, [], ◌∷◌, Option, None, Some, length, take, drop, nat_eq, ◌==◌, ◌&&◌, ◌||◌, if◌then◌else◌, codes, slice_index}
use Rattle.std.specs.List.{find, starts_with, before_first}
use Rattle.std.specs.Str.{str_eq_ignore_ascii_case}
use Rattle.std.specs.Char.{is_ascii_alphabetic}
use Rattle.memchr.specs.Find.{occurs_at}
use Rattle.html_tok.specs.Classes.{ends_name, from_first}
use Rattle.html_tok.specs.Tags.{tag_end}

-- what may begin at a place
pub data Opening : Type 0 where
  opens_comment : Opening
  opens_bogus : Opening
  opens_end : Opening
  opens_start : Opening
  opens_text : Opening

-- what begins at the start of these bytes: a comment, a bogus comment, an end tag, a start tag, or text
unfoldable pub opening_of : List ℕ → Opening
opening_of bs = if starts_with nat_eq bs (codes "<!--") then opens_comment else
    if slice_index bs 0 == 60 && (slice_index bs 1 == 33 || slice_index bs 1 == 63) then opens_bogus else
    if slice_index bs 0 == 60 && slice_index bs 1 == 47 then
    (if is_ascii_alphabetic (slice_index bs 2) then opens_end else opens_bogus) else
    if slice_index bs 0 == 60 && is_ascii_alphabetic (slice_index bs 1) then opens_start else opens_text

-- whether text begins
abbrev pub is_text : Opening → Bool
is_text opens_text = true
is_text o = false

-- whether a start tag begins
abbrev pub is_start : Opening → Bool
is_start opens_start = true
is_start o = false

-- whether an end tag begins
abbrev pub is_end : Opening → Bool
is_end opens_end = true
is_end o = false

-- the elements whose text is raw up to their own end tag (HTML, 13.1.2 "raw text" and "escapable raw text")
abbrev pub raw_names : List (List ℕ)
raw_names = codes "script" ∷ codes "style" ∷ codes "title" ∷ codes "textarea" ∷ []

-- the one of them that has a name in any case
unfoldable pub raw_element : List ℕ → Option (List ℕ)
raw_element name = find (str_eq_ignore_ascii_case name) raw_names

-- whether the name in any case stands here, and what a name ends before after it
unfoldable pub has_name : List ℕ → List ℕ → Bool
has_name name bs = str_eq_ignore_ascii_case (take (length name) bs) name && ends_name (slice_index bs (length name))

-- whether an end tag of the element begins here: `</` and the name in any case, and white space, `/` or `>`
unfoldable pub ends_raw : List ℕ → List ℕ → Bool
ends_raw name bs = starts_with nat_eq bs (codes "</") && has_name name (drop 2 bs)

-- what ends a text: markup, or the end tag of a raw element
pub data TextEnd : Type 0 where
  by_markup : TextEnd
  by_end_of : List ℕ → TextEnd

-- whether text ends here
abbrev pub ends_at : TextEnd → List ℕ → Bool
ends_at by_markup bs = not (is_text (opening_of bs))
ends_at (by_end_of name) bs = ends_raw name bs

-- how many bytes come before the first place where text ends, or before the end
unfoldable pub text_len : TextEnd → List ℕ → ℕ
text_len u [] = 0
text_len u (b ∷ bs) = if ends_at u (b ∷ bs) then 0 else suc (text_len u bs)

-- how many bytes there are up to and with the first occurrence of the needle, or to the end
unfoldable pub len_through : List ℕ → List ℕ → ℕ
len_through needle [] = 0
len_through needle (b ∷ bs) = if occurs_at (b ∷ bs) needle 0 then length needle else suc (len_through needle bs)

-- whether `--` comes before a place
abbrev pub dashes : List ℕ → ℕ → Bool
dashes bs at = nat_le 2 at && slice_index bs (at - 1) == 45 && slice_index bs (at - 2) == 45

-- a kind of token, with the bytes of its parts
pub data KindView : Type 0 where
  text : KindView
  raw : KindView
  start : List ℕ → List ℕ → KindView
  close : List ℕ → KindView
  skip : KindView

-- a token, by its kind and its number of bytes
pub record Piece : Type 0 where
  pub kind : KindView
  pub len : ℕ

-- a tag of this opening's length and this name, or else a skip to the end
abbrev pub start_piece : List ℕ → List ℕ → ℕ → Option ℕ → Piece
start_piece name rest all None = record { kind = skip; len = all }
start_piece name rest all (Some n) = record { kind = start name (take n rest); len = 1 + length name + n + 1 }

-- an end tag of this name, or else a skip to the end
abbrev pub close_piece : List ℕ → ℕ → Option ℕ → Piece
close_piece name all None = record { kind = skip; len = all }
close_piece name all (Some n) = record { kind = close name; len = 2 + length name + n + 1 }

-- a start tag: `<`, the name, the attributes and `>`
unfoldable pub start_at : List ℕ → Piece
start_at bs = start_piece (before_first ends_name (drop 1 bs)) (from_first ends_name (drop 1 bs)) (length bs)
    (tag_end (from_first ends_name (drop 1 bs)))

-- an end tag: `</`, the name, what is passed over and `>`
unfoldable pub close_at : List ℕ → Piece
close_at bs = close_piece (before_first ends_name (drop 2 bs)) (length bs) (tag_end (from_first ends_name (drop 2 bs)))

-- the token that such an opening begins
unfoldable pub piece_of : Opening → List ℕ → Piece
piece_of opens_comment bs = record { kind = skip; len = 4 + len_through (codes "-->") (drop 4 bs) }
piece_of opens_bogus bs = record { kind = skip; len = len_through (codes ">") bs }
piece_of opens_end bs = close_at bs
piece_of opens_start bs = start_at bs
piece_of opens_text bs = record { kind = text; len = text_len by_markup bs }

-- raw text of so many bytes, where it isn't empty
abbrev pub raw_piece : List ℕ → ℕ → Piece
raw_piece bs zero = piece_of (opening_of bs) bs
raw_piece bs (suc n) = record { kind = raw; len = suc n }

-- the token at the start of these bytes, after a start tag of such an element or of none
unfoldable pub piece_at : Option (List ℕ) → List ℕ → Piece
piece_at None bs = piece_of (opening_of bs) bs
piece_at (Some e) bs = raw_piece bs (text_len (by_end_of e) bs)

-- the element whose raw text may come after a token
abbrev pub raw_after : KindView → Option (List ℕ)
raw_after (start name attrs) = raw_element name
raw_after k = None
