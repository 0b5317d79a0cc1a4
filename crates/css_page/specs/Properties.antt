-- The properties that pages and margin boxes take (css-page-3, 4 and 5), and the values of those that elements don't
-- have so.
use Rattle.std.specs.Prelude.{ℕ, if◌then◌else◌, List, [], ◌∷◌, ◌++◌, codes}
use Rattle.bk_num.specs.declared.values.Align.{Align}
use Rattle.bk_num.specs.declared.values.Align.TheVariants as align
use Rattle.css_words.specs.Parser.{Parser, ◌>>=◌, ◌>>◌, pure, refuse, on_some, peek, second, advance}
use Rattle.css_words.specs.Words.{is_none}
use Rattle.style.specs.declared.long.Given.{Given}
use Rattle.style.specs.declared.long.Given.TheVariants as given
use Rattle.css_content.specs.Basics.{word_in}
use Rattle.css_content.specs.Grammar.{content}
use Rattle.css_content.specs.declared.content.ContentPlace.TheVariants as place
use Rattle.css_values.specs.Decls.{wide_of}
use Rattle.css_values.specs.Values.{given_by}
use Rattle.css_values.specs.declared.values.Wide.{Wide}
use Rattle.css_page.specs.Sizes.{size}
use Rattle.css_page.specs.declared.values.PageLong.{PageLong}
use Rattle.css_page.specs.declared.values.PageLong.TheVariants as long
use Rattle.css_page.specs.declared.values.Upright.{Upright}
use Rattle.css_page.specs.declared.values.Upright.TheVariants as upright
use Rattle.css_page.specs.declared.properties.PageContext.{PageContext}
use Rattle.css_page.specs.declared.properties.PageContext.TheVariants as context
use Rattle.css_page.specs.declared.properties.PageGrammar.{PageGrammar}
use Rattle.css_page.specs.declared.properties.PageGrammar.TheVariants as grammar
use Rattle.css_page.specs.declared.properties.OwnProperty.{OwnProperty}
use Rattle.css_page.specs.declared.properties.OwnProperty.TheVariants as own

-- what pages and margin boxes both take: how their texts are set
unfoldable pub text_properties : List (List ℕ × PageGrammar)
text_properties =
    (codes "color", grammar.Shared) ∷ (codes "font-family", grammar.Shared) ∷
    (codes "font-size", grammar.Shared) ∷ (codes "font-style", grammar.Shared) ∷
    (codes "font-weight", grammar.Shared) ∷ (codes "line-height", grammar.Shared) ∷ []

-- what a page takes besides
unfoldable pub page_properties : List (List ℕ × PageGrammar)
page_properties =
    (codes "size", grammar.Own own.Size) ∷ (codes "margin", grammar.Shared) ∷
    (codes "margin-top", grammar.Shared) ∷ (codes "margin-right", grammar.Shared) ∷
    (codes "margin-bottom", grammar.Shared) ∷ (codes "margin-left", grammar.Shared) ∷ []

-- what a margin box takes besides
unfoldable pub box_properties : List (List ℕ × PageGrammar)
box_properties =
    (codes "content", grammar.Own own.Content) ∷ (codes "text-align", grammar.Own own.TextAlign) ∷
    (codes "vertical-align", grammar.Own own.VerticalAlign) ∷ []

-- what a page or a margin box takes that the other doesn't
abbrev pub other_properties : PageContext → List (List ℕ × PageGrammar)
other_properties context.Page = page_properties
other_properties context.MarginBox = box_properties

-- what a page or a margin box takes
abbrev pub properties : PageContext → List (List ℕ × PageGrammar)
properties c = other_properties c ++ text_properties

-- the values of `text-align` in a margin box
unfoldable pub aligns : List (List ℕ × Align)
aligns = (codes "left", align.Left) ∷ (codes "center", align.Center) ∷ (codes "right", align.Right) ∷ []

-- the values of `vertical-align` in a margin box (css-page-3, 5.3)
unfoldable pub uprights : List (List ℕ × Upright)
uprights = (codes "top", upright.Top) ∷ (codes "middle", upright.Middle) ∷ (codes "bottom", upright.Bottom) ∷ []

-- a value as one of a property
abbrev pub as_long : {A : Type 0} → (Given A → PageLong) → Parser A → Parser PageLong
as_long make p = p >>= (λ x. pure (make (given.Value x)))

-- a value of each property of their own
abbrev pub read_value : OwnProperty → Parser PageLong
read_value own.Size = as_long long.Size size
read_value own.Content = as_long long.Content (content place.MarginBox)
read_value own.TextAlign = as_long long.TextAlign (word_in aligns)
read_value own.VerticalAlign = as_long long.VerticalAlign (word_in uprights)

-- a property with one of the two words that every property takes
abbrev pub wide_long : OwnProperty → Wide → PageLong
wide_long own.Size w = long.Size (given_by w)
wide_long own.Content w = long.Content (given_by w)
wide_long own.TextAlign w = long.TextAlign (given_by w)
wide_long own.VerticalAlign w = long.VerticalAlign (given_by w)

-- the same, or one of the two words of every property
unfoldable pub read_given : OwnProperty → Parser PageLong
read_given p = do
  t ← peek
  s ← second
  on_some (wide_of t s) (read_value p) (λ w. advance >> pure (wide_long p w))

-- a reading that leaves nothing
unfoldable pub read_own : OwnProperty → Parser PageLong
read_own p = do
  l ← read_given p
  t ← peek
  if is_none t then pure l else refuse
