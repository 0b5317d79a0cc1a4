-- Declarations: which longhands a property's value gives.
use Rattle.std.specs.Prelude.{ℕ, if◌then◌else◌, List, [], ◌∷◌, codes, Option, Some, None}
use Rattle.css_tok.specs.declared.kind.CssKind.TheVariants as kind
use Rattle.css_tok.specs.Tokens.{Item, tokens_of}
use Rattle.css_words.specs.Input.{kept}
use Rattle.css_words.specs.Parser.{Parser, Outcome, ◌>>=◌, ◌>>◌, pure, refuse, on_some, peek, second, advance}
use Rattle.css_words.specs.Table.{find_word}
use Rattle.css_words.specs.Words.{of_kind, is_none, slice_of}
use Rattle.css_words.specs.declared.reader.Skipped.TheVariants as skipped
use Rattle.style.specs.declared.longhand.Longhand.{Longhand}
use Rattle.style.specs.declared.longhand.Longhand.TheVariants as hand
use Rattle.style.specs.declared.long.Long.{Long}
use Rattle.style.specs.declared.long.Long.TheVariants as long
use Rattle.css_content.specs.Basics.{word_in}
use Rattle.css_values.specs.Words.{page_breaks, inside_page_breaks}
use Rattle.css_values.specs.Values.{as_long, read_value}
use Rattle.css_values.specs.Shorthands.{longhands_of, read_shorthand, wide_longs}
use Rattle.css_values.specs.Properties.{property_of}
use Rattle.css_values.specs.declared.decls.Decl.{Decl}
use Rattle.css_values.specs.declared.properties.Property.{Property}
use Rattle.css_values.specs.declared.properties.Property.TheVariants as property
use Rattle.css_values.specs.declared.values.Wide.{Wide}
use Rattle.css_values.specs.declared.values.Wide.TheVariants as wide

-- the two words that every property takes (CSS 2.1, 6.2.1; css-cascade-3, 7)
unfoldable pub wides : List (List ℕ × Wide)
wides = (codes "inherit", wide.Inherit) ∷ (codes "initial", wide.Initial) ∷ []

-- `inherit` or `initial` alone
unfoldable pub wide_of : Option Item → Option Item → Option Wide
wide_of t s = if is_none s then (if of_kind kind.Ident t then find_word wides (slice_of t) else None) else None

-- the longhands of a property
abbrev pub hands_of : Property → List Longhand
hands_of (property.One h) = h ∷ []
hands_of property.PageBreakBefore = hand.BreakBefore ∷ []
hands_of property.PageBreakAfter = hand.BreakAfter ∷ []
hands_of property.PageBreakInside = hand.BreakInside ∷ []
hands_of (property.Several s) = longhands_of s

-- one longhand
abbrev pub alone : Parser Long → Parser (List Long)
alone p = p >>= (λ l. pure (l ∷ []))

-- what a property's value gives, beside the two words
unfoldable pub read_property : Property → Parser (List Long)
read_property (property.One h) = alone (read_value h)
read_property property.PageBreakBefore = alone (as_long long.BreakBefore (word_in page_breaks))
read_property property.PageBreakAfter = alone (as_long long.BreakAfter (word_in page_breaks))
read_property property.PageBreakInside = alone (as_long long.BreakInside (word_in inside_page_breaks))
read_property (property.Several s) = read_shorthand s

-- what a property's value gives
unfoldable pub read_given : Property → Parser (List Long)
read_given p = do
  t ← peek
  s ← second
  on_some (wide_of t s) (read_property p) (λ w. advance >> pure (wide_longs (hands_of p) w))

-- a reading that leaves nothing
unfoldable pub read_all : Property → Parser (List Long)
read_all p = do
  longs ← read_given p
  t ← peek
  if is_none t then pure longs else refuse

-- the declaration of a reading
abbrev pub decl_of : Outcome (List Long) → Option Decl
decl_of None = None
decl_of (Some r) = Some (record { longs = r.0 })

-- a declaration of a property that is known
abbrev pub decl_as : Option Property → List Item → Option Decl
decl_as None ts = None
decl_as (Some p) ts = decl_of (read_all p ts)

-- the longhands that a declaration gives, where the property's grammar has a reading of the whole value
unfoldable pub read_decl : List ℕ → List ℕ → Option Decl
read_decl name value = decl_as (property_of name) (kept skipped.CommentsAndSpaces (tokens_of value))
