-- The lines of a sheet, as they are told by the line feeds before a place.
use Rattle.std.specs.Prelude.{◌≡◌, ℕ, ◌+◌, ◌==◌, List, [], ◌∷◌, ◌++◌, count_by}
use Rattle.css_tok.specs.Tokens.{Item, tokens_of}
use Rattle.unread_list.specs.declared.reader.Lines.{Lines}

-- how many line feeds, which are 10, a text has
abbrev pub feeds : List ℕ → ℕ
feeds bs = count_by (λ b. b == 10) bs

-- how many line feeds tokens have
unfoldable pub feeds_in : List Item → ℕ
feeds_in [] = 0
feeds_in (t ∷ ts) = feeds t.slice + feeds_in ts

-- the tokens that a reader has before it
abbrev pub left_in : Lines → List Item
left_in l = tokens_of l.tokens.rest.now

-- a reader passed the first of its tokens, one at least where it had one, and stands as many lines further as they have
-- line feeds
pub record Passes (ts us : List Item) (line after : ℕ) : Type 0 where
  pub front : List Item
  pub is : ts ≡ front ++ us
  pub some : front ≡ [] → ts ≡ []
  pub lines : after ≡ line + feeds_in front
