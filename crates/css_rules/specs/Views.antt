-- Tokens as contracts see them.
use Rattle.std.specs.Prelude.{List, map}
use Rattle.css_tok.specs.declared.tokens.CssToken.{CssToken}
use Rattle.css_tok.specs.Tokens.{Item, item_in}

-- tokens of the reader as contracts see them
abbrev pub items_in : List CssToken → List Item
items_in ts = map item_in ts
