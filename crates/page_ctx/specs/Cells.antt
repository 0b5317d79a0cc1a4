-- The page box, its margins and its frame by the winning declarations (css-page-3, 4 to 7).
use Rattle.std.specs.Prelude.{ℤ, pos, ◌-ℤ◌, List, Option, Some, None}
use Rattle.std.specs.Option.{option_and_then}
use Rattle.bk_num.specs.Limits.{root_size, page_width, page_height, page_margin}
use Rattle.bk_num.specs.Sides.{each}
use Rattle.bk_num.specs.declared.sides.BoxSide.{BoxSide}
use Rattle.bk_num.specs.declared.sides.BoxSide.TheVariants as side
use Rattle.bk_num.specs.declared.sides.Sides.{Sides}
use Rattle.style.specs.declared.values.Measure.{Measure}
use Rattle.style.specs.declared.values.Measure.TheVariants as measure
use Rattle.style.specs.declared.long.Given.{Given}
use Rattle.css_page.specs.declared.values.PageLong.{PageLong}
use Rattle.css_page.specs.declared.values.PageLong.TheVariants as long
use Rattle.computed_values.specs.Values.{given_by, held, units_of}
use Rattle.boxes.specs.declared.frames.Frame.{Frame}
use Rattle.boxes.specs.declared.table.PageCell.{PageCell}
use Rattle.page_ctx.specs.declared.property.PageProperty.TheVariants as property
use Rattle.page_ctx.specs.Settings.{page_setting}
use Rattle.page_ctx.specs.Winners.{Declared, value_of}

-- a length of the page's font size, not negative
abbrev pub length_by : ℤ → Measure → ℤ
length_by font m = held (units_of font root_size (pos 0) m)

-- the width of the page box: that of the winning size, or the default one
abbrev pub width_by : ℤ → Option PageLong → ℤ
width_by font (Some (long.Size g)) = given_by (λ s. length_by font s.width) g page_width page_width
width_by font _ = page_width

-- its height
abbrev pub height_by : ℤ → Option PageLong → ℤ
height_by font (Some (long.Size g)) = given_by (λ s. length_by font s.height) g page_height page_height
height_by font _ = page_height

-- the declared value of a margin
abbrev pub margin_of : PageLong → Option (Given Measure)
margin_of (long.MarginTop g) = Some g
margin_of (long.MarginRight g) = Some g
margin_of (long.MarginBottom g) = Some g
margin_of (long.MarginLeft g) = Some g
margin_of l = None

-- a used margin: `auto` is 0, and a percentage is of the page's width or height
abbrev pub used_margin : ℤ → ℤ → Measure → ℤ
used_margin font base measure.Auto = pos 0
used_margin font base m = units_of font root_size base m

-- the margin that a declaration gives; the initial one is 0.75 in
abbrev pub given_margin : ℤ → ℤ → Option (Given Measure) → ℤ
given_margin font base None = page_margin
given_margin font base (Some g) = given_by (used_margin font base) g page_margin page_margin

-- the margin that wins, or the initial one
abbrev pub margin_by : ℤ → ℤ → Option PageLong → ℤ
margin_by font base found = given_margin font base (option_and_then margin_of found)

-- what a percentage of a margin is of: the page's height above and below, and else its width (css-page-3, 7.1)
abbrev pub base_of : ℤ → ℤ → BoxSide → ℤ
base_of width height side.Top = height
base_of width height side.Right = width
base_of width height side.Bottom = height
base_of width height side.Left = width

-- the margins by what is declared, where the font size, the width and the height are these
abbrev pub margins_by : ℤ → ℤ → ℤ → List Declared → Sides ℤ
margins_by font width height ds =
    each (λ s. margin_by font (base_of width height s) (value_of (property.Margin s) ds))

-- what the margins leave of a length, at least 0
abbrev pub between : ℤ → ℤ → ℤ → ℤ
between whole before after = held (whole -ℤ before -ℤ after)

-- the page box less its margins
abbrev pub frame_with : ℤ → ℤ → Sides ℤ → Frame
frame_with width height m = record {
  left = m.left;
  top = m.top;
  width = between width m.left m.right;
  height = between height m.top m.bottom;
}

-- a page box with its margins and its frame
abbrev pub cell_with : ℤ → ℤ → Sides ℤ → PageCell
cell_with width height m = record {
  width = width;
  height = height;
  right = m.right;
  bottom = m.bottom;
  frame = frame_with width height m;
}

-- by what is declared, where the font size, the width and the height are these
abbrev pub cell_sized : ℤ → ℤ → ℤ → List Declared → PageCell
cell_sized font width height ds = cell_with width height (margins_by font width height ds)

-- the font size of a page, whose parent has the initial values
abbrev pub font_size_of : List Declared → ℤ
font_size_of ds = (page_setting ds).size

-- the page box in a font of this size
abbrev pub cell_fonted : ℤ → List Declared → PageCell
cell_fonted font ds =
    cell_sized font (width_by font (value_of property.Size ds)) (height_by font (value_of property.Size ds)) ds

-- the page box by what is declared for a page
abbrev pub cell_by : List Declared → PageCell
cell_by ds = cell_fonted (font_size_of ds) ds
