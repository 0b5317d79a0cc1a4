-- The one list of tokens of a text.
use Rattle.std.specs.Prelude.{◌≡◌, ℕ, zero, suc, ◌+◌, ◌-◌, List, [], ◌∷◌, Option, None, length, take}
use Rattle.html_tok.specs.Pieces.{KindView, Piece, piece_at, raw_after, text, raw, start, close, skip}
use Rattle.html_tok.specs.declared.tokens.Token.{Token}
use Rattle.html_tok.specs.declared.tokens.TokenKind.{TokenKind}
use Rattle.html_tok.specs.declared.tokens.TokenKind.TheVariants as kinds

-- a token: its place, its bytes and its kind
pub record TokenView : Type 0 where
  pub at : ℕ
  pub slice : List ℕ
  pub kind : KindView

-- a token's kind, with the bytes of its parts
abbrev pub kind_of : TokenKind → KindView
kind_of kinds.Text = text
kind_of kinds.Raw = raw
kind_of (kinds.Start name attrs) = start name.now attrs.now
kind_of (kinds.End name) = close name.now
kind_of kinds.Skip = skip

-- a token of the reader as contracts see it
abbrev pub view_of : Token → TokenView
view_of t = record { at = t.at; slice = t.slice.now; kind = kind_of t.kind }

-- the token of a piece that stands at a place, where these bytes begin
abbrev pub view_at : ℕ → List ℕ → Piece → TokenView
view_at at bs p = record { at = at; slice = take p.len bs; kind = p.kind }

-- the tokens from this place on, where the first n bytes belong to a token that is listed
unfoldable pub tokens_after : ℕ → ℕ → Option (List ℕ) → List ℕ → List TokenView
tokens_after n at awaited [] = []
tokens_after (suc n) at awaited (b ∷ bs) = tokens_after n (at + 1) awaited bs
tokens_after zero at awaited (b ∷ bs) = view_at at (b ∷ bs) (piece_at awaited (b ∷ bs))
    ∷ tokens_after ((piece_at awaited (b ∷ bs)).len - 1) (at + 1) (raw_after (piece_at awaited (b ∷ bs)).kind) bs

-- the tokens of a text
unfoldable pub tokens_of : List ℕ → List TokenView
tokens_of bs = tokens_after 0 0 None bs

-- each token stands where the one before it ends
abbrev pub ArePlaced : ℕ → List TokenView → Type 0
ArePlaced at [] = Unit {0}
ArePlaced at (t ∷ ts) = (t.at ≡ at) × ArePlaced (at + length t.slice) ts
