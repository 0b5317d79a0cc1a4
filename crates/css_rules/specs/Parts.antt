-- Where a part of a sheet ends: at the first token outside brackets that stops it.
use Rattle.std.specs.Prelude.{◌≡◌, ◌<◌, ◌++◌, ℕ, Bool, true, false, ◌&&◌, ◌||◌, if◌then◌else◌, ◌==◌, List, [], ◌∷◌, length, slice_get, Some}
use Rattle.std.specs.List.{flat_map}
use Rattle.css_tok.specs.Tokens.{Item, tokens_of}
use Rattle.css_tok.specs.Marks.{mark}
use Rattle.css_rules.specs.Brackets.{open_after, open_at, is_outside}
use Rattle.css_rules.specs.declared.parts.Stop.{Stop}
use Rattle.css_rules.specs.declared.parts.Stop.TheVariants as stop

-- tokens in a row
abbrev pub Piece : Type 0
Piece = List Item

-- what tokens were cut from
abbrev pub joined : List Item → List ℕ
joined ts = flat_map (λ t. t.slice) ts

-- a reader passed the first tokens of a text, and this text is left
pub record Passed (text rest : List ℕ) : Type 0 where
  pub front : List Item
  pub text_is : text ≡ joined front ++ rest
  pub tokens_are : tokens_of text ≡ front ++ tokens_of rest

-- `;` is 59, `{` is 123, `}` is 125 and `,` is 44
abbrev pub is_stop : Stop → ℕ → Bool
is_stop stop.Piece m = m == 59
is_stop stop.BlockPiece m = m == 59 || m == 125
is_stop stop.Prelude m = m == 123
is_stop stop.InnerPrelude m = m == 123 || m == 125
is_stop stop.AtRule m = m == 59 || m == 123
is_stop stop.InnerAtRule m = m == 59 || m == 123 || m == 125
is_stop stop.Comma m = m == 44

-- what parts the pieces of such a list
abbrev pub separator : Stop → ℕ
separator stop.Comma = 44
separator _ = 59

-- a token outside brackets at which such a part ends
unfoldable pub ends : Stop → List ℕ → Item → Bool
ends s open' t = is_outside open' && is_stop s (mark t)

-- the tokens before the first one that ends the part
unfoldable pub front_from : Stop → List ℕ → List Item → List Item
front_from s open' [] = []
front_from s open' (t ∷ ts) = if ends s open' t then [] else t ∷ front_from s (open_after open' t) ts

-- the tokens from that one on
unfoldable pub after_from : Stop → List ℕ → List Item → List Item
after_from s open' [] = []
after_from s open' (t ∷ ts) = if ends s open' t then t ∷ ts else after_from s (open_after open' t) ts

-- more tokens before the first piece
abbrev pub with_tokens : Piece → List Piece → List Piece
with_tokens ts [] = ts ∷ []
with_tokens ts (p ∷ ps) = (ts ++ p) ∷ ps

-- the pieces up to the end, parted at the separators outside brackets
unfoldable pub parts_from : Stop → List ℕ → List Item → List Piece
parts_from s open' [] = [] ∷ []
parts_from s open' (t ∷ ts) =
    if ends s open' t then (if mark t == separator s then [] ∷ parts_from s [] ts else [] ∷ []) else
    with_tokens (t ∷ []) (parts_from s (open_after open' t) ts)

-- what follows that end
unfoldable pub past_from : Stop → List ℕ → List Item → List Item
past_from s open' [] = []
past_from s open' (t ∷ ts) = if ends s open' t then (if mark t == separator s then past_from s [] ts else ts) else
    past_from s (open_after open' t) ts

-- what follows a block whose `{` was passed
abbrev pub past_block : List Item → List Item
past_block ts = past_from stop.BlockPiece [] ts

-- the length of a part is the first place outside brackets whose token stops it
pub record EndsFirst (s : Stop) (open' : List ℕ) (ts : List Item) : Type 0 where
  pub before : (k : ℕ) (t : Item) → k < length (front_from s open' ts) → slice_get ts k ≡ Some t →
      ends s (open_at open' ts k) t ≡ false
  pub here : (k : ℕ) (t : Item) → k ≡ length (front_from s open' ts) → slice_get ts k ≡ Some t →
      ends s (open_at open' ts k) t ≡ true

-- each part ends at the first token that may end it
abbrev pub EachPartEndsFirst : Type 0
EachPartEndsFirst = (s : Stop) (open' : List ℕ) (ts : List Item) → EndsFirst s open' ts
