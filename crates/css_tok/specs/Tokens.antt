-- The tokens of a text.
use Rattle.std.specs.Prelude.{◌≡◌, ℕ, zero, suc, ◌-◌, List, [], ◌∷◌, take}
use Rattle.css_tok.specs.declared.kind.CssKind.{CssKind}
use Rattle.css_tok.specs.declared.tokens.CssToken.{CssToken}
use Rattle.css_tok.specs.Kind.{token_at}

-- a token without its place
pub record Item : Type 0 where
  pub kind : CssKind
  pub slice : List ℕ

-- the token at the start, with its bytes
abbrev pub item_of : List ℕ → Item
item_of bs = record { kind = (token_at bs).0; slice = take (token_at bs).1 bs }

-- The number counts the bytes that are left of a token.
unfoldable pub tokens_from : ℕ → List ℕ → List Item
tokens_from left [] = []
tokens_from (suc left) (b ∷ bs) = tokens_from left bs
tokens_from zero (b ∷ bs) = item_of (b ∷ bs) ∷ tokens_from ((token_at (b ∷ bs)).1 - 1) bs

-- the tokens of a text (css-syntax, 4)
unfoldable pub tokens_of : List ℕ → List Item
tokens_of bs = tokens_from 0 bs

-- a token of the reader as contracts see it
abbrev pub item_in : CssToken → Item
item_in t = record { kind = t.kind; slice = t.slice.now }

-- a token is the first of a text, and another text has those that follow
abbrev pub IsFirstToken : CssToken → List ℕ → List ℕ → Type 0
IsFirstToken t text rest = tokens_of text ≡ item_in t ∷ tokens_of rest
