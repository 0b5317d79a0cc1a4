-- The words that values are (CSS 2.1, appendix F; css-break-3, 3; css-text-3, 5.2).
use Rattle.std.specs.Prelude.{ℕ, ℤ, pos, Bool, true, false, List, [], ◌∷◌, codes}
use Rattle.bk_num.specs.Limits.{root_size}
use Rattle.bk_num.specs.declared.length.Unit.TheVariants as unit
use Rattle.bk_num.specs.declared.values.Align.{Align}
use Rattle.bk_num.specs.declared.values.Align.TheVariants as align
use Rattle.bk_num.specs.declared.values.BreakAt.{BreakAt}
use Rattle.bk_num.specs.declared.values.BreakAt.TheVariants as break
use Rattle.bk_num.specs.declared.values.Color.{Color}
use Rattle.bk_num.specs.declared.values.WhiteSpace.{WhiteSpace}
use Rattle.bk_num.specs.declared.values.WhiteSpace.TheVariants as space
use Rattle.style.specs.Initial.{medium_width, normal_weight}
use Rattle.style.specs.declared.values.BorderStyle.{BorderStyle}
use Rattle.style.specs.declared.values.BorderStyle.TheVariants as border
use Rattle.style.specs.declared.values.Display.{Display}
use Rattle.style.specs.declared.values.Display.TheVariants as display
use Rattle.style.specs.declared.values.Weight.{Weight}
use Rattle.style.specs.declared.values.Weight.TheVariants as weight
use Rattle.css_values.specs.declared.measures.Scale.{Scale}
use Rattle.css_values.specs.declared.measures.Scale.TheVariants as scale
use Rattle.css_values.specs.declared.fonts.SizeWord.{SizeWord}
use Rattle.css_values.specs.declared.fonts.SizeWord.TheVariants as word

-- the units of length (CSS 2.1, 4.3.2; css-values-3, 5)
unfoldable pub scales : List (List ℕ × Scale)
scales =
    (codes "px", scale.Absolute unit.Px) ∷ (codes "in", scale.Absolute unit.In) ∷
    (codes "cm", scale.Absolute unit.Cm) ∷ (codes "mm", scale.Absolute unit.Mm) ∷
    (codes "pt", scale.Absolute unit.Pt) ∷ (codes "pc", scale.Absolute unit.Pc) ∷ (codes "em", scale.Em) ∷
    (codes "rem", scale.Rem) ∷ (codes "ex", scale.Ex) ∷ []

-- the displays; those of tables are blocks here (CSS 2.1, 9.2.4)
unfoldable pub displays : List (List ℕ × Display)
displays =
    (codes "inline", display.Inline) ∷ (codes "block", display.Block) ∷ (codes "list-item", display.ListItem) ∷
    (codes "none", display.Hidden) ∷ (codes "flow-root", display.Block) ∷ (codes "table", display.Block) ∷
    (codes "table-row-group", display.Block) ∷ (codes "table-header-group", display.Block) ∷
    (codes "table-footer-group", display.Block) ∷ (codes "table-row", display.Block) ∷
    (codes "table-cell", display.Block) ∷ (codes "table-caption", display.Block) ∷ []

-- whether the element is a footnote (css-gcpm-3, 2)
unfoldable pub floats : List (List ℕ × Bool)
floats = (codes "none", false) ∷ (codes "footnote", true) ∷ []

-- the widths of borders, in 1/64 px: 1, 3 and 5 px
unfoldable pub border_widths : List (List ℕ × ℤ)
border_widths = (codes "thin", pos 64) ∷ (codes "medium", medium_width) ∷ (codes "thick", pos 320) ∷ []

-- the styles of borders; each that paints is solid here (CSS 2.1, 8.5.3)
unfoldable pub border_styles : List (List ℕ × BorderStyle)
border_styles =
    (codes "none", border.Off) ∷ (codes "hidden", border.Hidden) ∷ (codes "solid", border.Solid) ∷
    (codes "dotted", border.Solid) ∷ (codes "dashed", border.Solid) ∷ (codes "double", border.Solid) ∷
    (codes "groove", border.Solid) ∷ (codes "ridge", border.Solid) ∷ (codes "inset", border.Solid) ∷
    (codes "outset", border.Solid) ∷ []

-- a colour by its three parts
abbrev pub rgb : ℕ → ℕ → ℕ → Color
rgb r g b = record { red = r; green = g; blue = b }

-- the names of colours (CSS 2.1, 4.3.6)
unfoldable pub colors : List (List ℕ × Color)
colors =
    (codes "black", rgb 0 0 0) ∷ (codes "silver", rgb 192 192 192) ∷ (codes "gray", rgb 128 128 128) ∷
    (codes "white", rgb 255 255 255) ∷ (codes "maroon", rgb 128 0 0) ∷ (codes "red", rgb 255 0 0) ∷
    (codes "purple", rgb 128 0 128) ∷ (codes "fuchsia", rgb 255 0 255) ∷ (codes "green", rgb 0 128 0) ∷
    (codes "lime", rgb 0 255 0) ∷ (codes "olive", rgb 128 128 0) ∷ (codes "yellow", rgb 255 255 0) ∷
    (codes "navy", rgb 0 0 128) ∷ (codes "blue", rgb 0 0 255) ∷ (codes "teal", rgb 0 128 128) ∷
    (codes "aqua", rgb 0 255 255) ∷ (codes "orange", rgb 255 165 0) ∷ []

-- the sizes of fonts, in 1/64 px: 9, 10, 13, 16, 18, 24 and 32 px
unfoldable pub sizes : List (List ℕ × SizeWord)
sizes =
    (codes "xx-small", word.Units (pos 576)) ∷ (codes "x-small", word.Units (pos 640)) ∷
    (codes "small", word.Units (pos 832)) ∷ (codes "medium", word.Units root_size) ∷
    (codes "large", word.Units (pos 1152)) ∷ (codes "x-large", word.Units (pos 1536)) ∷
    (codes "xx-large", word.Units (pos 2048)) ∷ (codes "smaller", word.Smaller) ∷ (codes "larger", word.Larger) ∷ []

-- whether a font is italic
unfoldable pub slopes : List (List ℕ × Bool)
slopes = (codes "normal", false) ∷ (codes "italic", true) ∷ (codes "oblique", true) ∷ []

-- the weights of fonts (CSS 2.1, 15.6)
unfoldable pub weights : List (List ℕ × Weight)
weights =
    (codes "normal", weight.Number normal_weight) ∷ (codes "bold", weight.Number 700) ∷
    (codes "bolder", weight.Bolder) ∷ (codes "lighter", weight.Lighter) ∷ []

-- how lines are aligned (CSS 2.1, 16.2; css-text-3, 6.1)
unfoldable pub aligns : List (List ℕ × Align)
aligns =
    (codes "left", align.Left) ∷ (codes "right", align.Right) ∷ (codes "center", align.Center) ∷
    (codes "justify", align.Justify) ∷ (codes "start", align.Left) ∷ (codes "end", align.Right) ∷ []

-- how white space is kept (CSS 2.1, 16.6)
unfoldable pub spaces : List (List ℕ × WhiteSpace)
spaces =
    (codes "normal", space.Normal) ∷ (codes "nowrap", space.NoWrap) ∷ (codes "pre", space.Pre) ∷
    (codes "pre-wrap", space.PreWrap) ∷ (codes "pre-line", space.PreLine) ∷ []

-- whether words are broken where they don't fit
unfoldable pub wraps : List (List ℕ × Bool)
wraps = (codes "normal", false) ∷ (codes "anywhere", true) ∷ (codes "break-word", true) ∷ []

-- the breaks before and after (css-break-3, 3.1)
unfoldable pub breaks : List (List ℕ × BreakAt)
breaks =
    (codes "auto", break.Auto) ∷ (codes "avoid", break.Avoid) ∷ (codes "avoid-page", break.Avoid) ∷
    (codes "page", break.Page) ∷ (codes "left", break.Left) ∷ (codes "right", break.Right) ∷
    (codes "recto", break.Right) ∷ (codes "verso", break.Left) ∷ (codes "column", break.Column) ∷ []

-- the words of `page-break-before` and `page-break-after` (CSS 2.1, 13.3.1)
unfoldable pub page_breaks : List (List ℕ × BreakAt)
page_breaks =
    (codes "auto", break.Auto) ∷ (codes "avoid", break.Avoid) ∷ (codes "always", break.Page) ∷
    (codes "left", break.Left) ∷ (codes "right", break.Right) ∷ []

-- whether breaks inside are avoided
unfoldable pub inside_breaks : List (List ℕ × Bool)
inside_breaks = (codes "auto", false) ∷ (codes "avoid", true) ∷ (codes "avoid-page", true) ∷ []

-- whether borders and paddings stand again where a page parts a box (css-break-3, 5.4)
unfoldable pub decoration_breaks : List (List ℕ × Bool)
decoration_breaks = (codes "slice", false) ∷ (codes "clone", true) ∷ []

-- whether lines are chosen for a paragraph as a whole (the project's own property)
unfoldable pub fills : List (List ℕ × Bool)
fills = (codes "greedy", false) ∷ (codes "fit", true) ∷ []

-- whether words are hyphenated by patterns; `none` is as `manual` (css-text-3, 5.4)
unfoldable pub hyphenations : List (List ℕ × Bool)
hyphenations = (codes "none", false) ∷ (codes "manual", false) ∷ (codes "auto", true) ∷ []

-- the words of `page-break-inside` (CSS 2.1, 13.3.1)
unfoldable pub inside_page_breaks : List (List ℕ × Bool)
inside_page_breaks = (codes "auto", false) ∷ (codes "avoid", true) ∷ []
