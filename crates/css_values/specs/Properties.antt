-- The properties by their names (CSS 2.1, appendix F; css-gcpm-3; css-break-3; css-text-3).
use Rattle.std.specs.Prelude.{ℕ, List, [], ◌∷◌, codes, Option, option_map}
use Rattle.std.specs.Option.{option_or}
use Rattle.bk_num.specs.declared.sides.BoxSide.TheVariants as side
use Rattle.css_words.specs.Table.{find_word}
use Rattle.style.specs.declared.longhand.Longhand.{Longhand}
use Rattle.style.specs.declared.longhand.Longhand.TheVariants as hand
use Rattle.css_values.specs.declared.properties.Property.{Property}
use Rattle.css_values.specs.declared.properties.Property.TheVariants as property
use Rattle.css_values.specs.declared.shorthands.Shorthand.{Shorthand}
use Rattle.css_values.specs.declared.shorthands.Shorthand.TheVariants as shorthand
use Rattle.css_values.specs.declared.sides.SideKind.TheVariants as kind

-- the longhands of a box's sides
unfoldable pub side_hands : List (List ℕ × Longhand)
side_hands =
    (codes "margin-top", hand.Margin side.Top) ∷ (codes "margin-right", hand.Margin side.Right) ∷
    (codes "margin-bottom", hand.Margin side.Bottom) ∷ (codes "margin-left", hand.Margin side.Left) ∷
    (codes "padding-top", hand.Padding side.Top) ∷ (codes "padding-right", hand.Padding side.Right) ∷
    (codes "padding-bottom", hand.Padding side.Bottom) ∷ (codes "padding-left", hand.Padding side.Left) ∷
    (codes "border-top-width", hand.BorderWidth side.Top) ∷
    (codes "border-right-width", hand.BorderWidth side.Right) ∷
    (codes "border-bottom-width", hand.BorderWidth side.Bottom) ∷
    (codes "border-left-width", hand.BorderWidth side.Left) ∷
    (codes "border-top-style", hand.BorderStyle side.Top) ∷
    (codes "border-right-style", hand.BorderStyle side.Right) ∷
    (codes "border-bottom-style", hand.BorderStyle side.Bottom) ∷
    (codes "border-left-style", hand.BorderStyle side.Left) ∷
    (codes "border-top-color", hand.BorderColor side.Top) ∷
    (codes "border-right-color", hand.BorderColor side.Right) ∷
    (codes "border-bottom-color", hand.BorderColor side.Bottom) ∷
    (codes "border-left-color", hand.BorderColor side.Left) ∷ []

-- the other longhands; `background` and `list-style` have one, and `word-wrap` is another name
unfoldable pub lone_hands : List (List ℕ × Longhand)
lone_hands =
    (codes "display", hand.Display) ∷ (codes "float", hand.Float) ∷ (codes "width", hand.Width) ∷
    (codes "color", hand.Color) ∷ (codes "background-color", hand.BackgroundColor) ∷
    (codes "font-family", hand.FontFamily) ∷ (codes "font-size", hand.FontSize) ∷
    (codes "font-style", hand.FontStyle) ∷ (codes "font-weight", hand.FontWeight) ∷
    (codes "line-height", hand.LineHeight) ∷ (codes "text-align", hand.TextAlign) ∷
    (codes "text-indent", hand.TextIndent) ∷ (codes "white-space", hand.WhiteSpace) ∷
    (codes "overflow-wrap", hand.OverflowWrap) ∷ (codes "list-style-type", hand.ListStyleType) ∷
    (codes "content", hand.Content) ∷ (codes "counter-reset", hand.CounterReset) ∷
    (codes "counter-increment", hand.CounterIncrement) ∷ (codes "string-set", hand.StringSet) ∷
    (codes "break-before", hand.BreakBefore) ∷ (codes "break-after", hand.BreakAfter) ∷
    (codes "break-inside", hand.BreakInside) ∷ (codes "widows", hand.Widows) ∷ (codes "orphans", hand.Orphans) ∷
    (codes "page", hand.Page) ∷ (codes "box-decoration-break", hand.BoxDecorationBreak) ∷
    (codes "book-fill", hand.BookFill) ∷ (codes "hyphens", hand.Hyphens) ∷
    (codes "word-wrap", hand.OverflowWrap) ∷
    (codes "background", hand.BackgroundColor) ∷ (codes "list-style", hand.ListStyleType) ∷ []

-- the shorthands
unfoldable pub shorthands : List (List ℕ × Shorthand)
shorthands =
    (codes "margin", shorthand.Sides kind.Margin) ∷ (codes "padding", shorthand.Sides kind.Padding) ∷
    (codes "border-width", shorthand.Sides kind.BorderWidth) ∷
    (codes "border-style", shorthand.Sides kind.BorderStyle) ∷
    (codes "border-color", shorthand.Sides kind.BorderColor) ∷ (codes "border", shorthand.Border) ∷
    (codes "border-top", shorthand.BorderSide side.Top) ∷ (codes "border-right", shorthand.BorderSide side.Right) ∷
    (codes "border-bottom", shorthand.BorderSide side.Bottom) ∷
    (codes "border-left", shorthand.BorderSide side.Left) ∷ []

-- the `page-break` properties, which set the longhands of other names by words of their own (CSS 2.1, 13.3.1)
unfoldable pub page_breaks : List (List ℕ × Property)
page_breaks =
    (codes "page-break-before", property.PageBreakBefore) ∷ (codes "page-break-after", property.PageBreakAfter) ∷
    (codes "page-break-inside", property.PageBreakInside) ∷ []

-- the property of a name
unfoldable pub property_of : List ℕ → Option Property
property_of name =
    option_or (option_map (λ h. property.One h) (find_word side_hands name))
    (option_or (option_map (λ h. property.One h) (find_word lone_hands name))
    (option_or (option_map (λ s. property.Several s) (find_word shorthands name)) (find_word page_breaks name)))
