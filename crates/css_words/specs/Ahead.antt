-- How a reader keeps what it has ahead: two tokens, and the text after them.
use Rattle.std.specs.Prelude.{◌≡◌, ℕ, List, [], ◌∷◌, Option, Some, None}
use Rattle.css_tok.specs.declared.tokens.CssToken.{CssToken}
use Rattle.css_tok.specs.Tokens.{Item, item_in, tokens_of}
use Rattle.css_words.specs.declared.reader.Skipped.{Skipped}
use Rattle.css_words.specs.Input.{kept}

-- a token before others, if there is one
abbrev pub before : Option CssToken → List Item → List Item
before None ts = ts
before (Some t) ts = item_in t ∷ ts

-- the tokens that are left: the next, the one after it, and those of the text behind them
unfoldable pub ahead : Skipped → Option CssToken → Option CssToken → List ℕ → List Item
ahead s next later text = before next (before later (kept s (tokens_of text)))

-- where one of the two isn't there, nothing follows it
abbrev pub NoneEnds : Option CssToken → List Item → Type 0
NoneEnds None ts = ts ≡ []
NoneEnds (Some t) ts = Unit {0}

-- a reader has two tokens at hand, as long as there are two
pub record IsFilled (s : Skipped) (next later : Option CssToken) (text : List ℕ) : Type 0 where
  pub after_next : NoneEnds next (before later (kept s (tokens_of text)))
  pub after_later : NoneEnds later (kept s (tokens_of text))
