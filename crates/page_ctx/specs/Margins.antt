-- How the texts of margin boxes are set, and where in their boxes they stand (css-page-3, page-margin boxes).
use Rattle.std.specs.Prelude.{◌≡◌, ◌≤ℤ◌, ◌==◌, ℕ, ℤ, pos, Bool, List, [], ◌∷◌, Option, None, Some, option_map, map, slice_get, get_or}
use Rattle.std.specs.Option.{option_and_then}
use Rattle.std.specs.List.{find, filter_map, range_with_len}
use Rattle.bk_num.specs.declared.ids.NameId.{NameId}
use Rattle.bk_num.specs.declared.values.Align.{Align}
use Rattle.bk_num.specs.declared.values.Align.TheVariants as align
use Rattle.bk_num.specs.declared.values.Color.{Color}
use Rattle.style.specs.declared.content.Part.{Part}
use Rattle.style.specs.declared.long.Given.TheVariants as given
use Rattle.computed_values.specs.Values.{given_by, same, used_line_height}
use Rattle.boxes.specs.Table.{cell_of, row_of}
use Rattle.boxes.specs.declared.frames.PageKind.{PageKind}
use Rattle.css_rules.specs.MarginBoxes.{margin_box_count}
use Rattle.css_page.specs.declared.rules.PageRule.{PageRule}
use Rattle.css_page.specs.declared.values.PageLong.{PageLong}
use Rattle.css_page.specs.declared.values.PageLong.TheVariants as long
use Rattle.css_page.specs.declared.values.Upright.{Upright}
use Rattle.css_page.specs.declared.values.Upright.TheVariants as upright
use Rattle.page_ctx.specs.declared.classes.PageClasses.{PageClasses}
use Rattle.page_ctx.specs.declared.margin_style.Alignment.{Alignment}
use Rattle.page_ctx.specs.declared.margin_style.MarginStyle.{MarginStyle}
use Rattle.page_ctx.specs.declared.margin_style.MarginBox.{MarginBox}
use Rattle.page_ctx.specs.declared.property.PageProperty.TheVariants as property
use Rattle.page_ctx.specs.Selectors.{classes_of}
use Rattle.page_ctx.specs.Settings.{PageSettingOf, setting_by, page_setting}
use Rattle.page_ctx.specs.Tables.{text_of, six_pages}
use Rattle.page_ctx.specs.Winners.{Declared, AppliedPageRuleOf, applied_to, page_declared, box_declared, value_of}

-- how the text of a margin box is set: its content, where it stands in its box, its font, its used line height and its
-- colour
pub record MarginStyleOf : Type 0 where
  pub content : List Part
  pub align : Align
  pub upright : Upright
  pub families : List (List ℕ)
  pub italic : Bool
  pub weight : ℕ
  pub size : ℤ
  pub line_height : ℤ
  pub color : Color

-- where a text stands: across its box, and in its height
abbrev pub aligned : Align → Upright → Alignment
aligned a u = record { align = a; upright = u }

-- where the texts of margin boxes stand if nothing is declared: of the boxes from the corner at the top left round the
-- page to the right, in the order of their numbers
abbrev pub alignments : List Alignment
alignments =
    aligned align.Right upright.Middle ∷
    aligned align.Left upright.Middle ∷
    aligned align.Center upright.Middle ∷
    aligned align.Right upright.Middle ∷
    aligned align.Left upright.Middle ∷
    aligned align.Center upright.Top ∷
    aligned align.Center upright.Middle ∷
    aligned align.Center upright.Bottom ∷
    aligned align.Left upright.Middle ∷
    aligned align.Right upright.Middle ∷
    aligned align.Center upright.Middle ∷
    aligned align.Left upright.Middle ∷
    aligned align.Right upright.Middle ∷
    aligned align.Center upright.Bottom ∷
    aligned align.Center upright.Middle ∷
    aligned align.Center upright.Top ∷
    []

-- `inherit` and `initial` are the box's own
abbrev pub align_by : Align → Option PageLong → Align
align_by own (Some (long.TextAlign g)) = given_by same g own own
align_by own _ = own

-- where a text stands in its box's height
abbrev pub upright_by : Upright → Option PageLong → Upright
upright_by own (Some (long.VerticalAlign g)) = given_by same g own own
upright_by own _ = own

-- the content of a box: none where nothing declares one, nor where it is `none`, `normal`, `inherit` or `initial`
abbrev pub content_by : Option PageLong → Option (List Part)
content_by (Some (long.Content (given.Value parts))) = parts
content_by _ = None

-- the same as values
abbrev pub style_in : MarginStyle → MarginStyleOf
style_in s = record {
  content = s.content.now;
  align = s.align;
  upright = s.upright;
  families = s.families.now;
  italic = s.italic;
  weight = s.weight;
  size = s.size;
  line_height = s.line_height;
  color = s.color;
}

-- a box's number and its style as values
abbrev pub box_in : MarginBox → ℕ × MarginStyleOf
box_in b = (b.place, style_in b.style)

-- so for each cell of a name
abbrev pub cells_in : List (List MarginBox) → List (List (ℕ × MarginStyleOf))
cells_in cells = map (λ boxes. map box_in boxes) cells

-- a text of this content, set so
abbrev pub style_set : PageSettingOf → Alignment → List Declared → List Part → MarginStyleOf
style_set s own ds content = record {
  content = content;
  align = align_by own.align (value_of property.TextAlign ds);
  upright = upright_by own.upright (value_of property.VerticalAlign ds);
  families = s.families;
  italic = s.italic;
  weight = s.weight;
  size = s.size;
  line_height = used_line_height s.size s.line_height;
  color = s.color;
}

-- the style of a box by what is declared for it, where its page's texts are set so and its own texts stand there
abbrev pub style_by : PageSettingOf → List Declared → Alignment → Option MarginStyleOf
style_by page ds own = option_map (style_set (setting_by page ds) own ds) (content_by (value_of property.Content ds))

-- the style of the box of a number by what is declared for each box
abbrev pub style_among : PageSettingOf → (ℕ → List Declared) → ℕ → Option MarginStyleOf
style_among page declared place = option_and_then (style_by page (declared place)) (slice_get alignments place)

-- the style of the box of a number by the rules that are for a page
abbrev pub style_below : PageSettingOf → List AppliedPageRuleOf → ℕ → Option MarginStyleOf
style_below page rules place = style_among page (λ k. box_declared k rules) place

-- by the rules that are for a page
abbrev pub style_applied : List AppliedPageRuleOf → ℕ → Option MarginStyleOf
style_applied rules place = style_below (page_setting (page_declared rules)) rules place

-- the style of the margin box of a number, from 0 to 15, on the pages of a name that have these pseudo-classes; none
-- where it has no content, and none past 15
abbrev pub margin_style : List PageRule → List ℕ → PageClasses → ℕ → Option MarginStyleOf
margin_style rules name c place = style_applied (applied_to name c rules) place

-- a box with its number
abbrev pub placed : ℕ → MarginStyleOf → ℕ × MarginStyleOf
placed place s = (place, s)

-- the box of a number with its style, if it has content
abbrev pub box_at : (ℕ → Option MarginStyleOf) → ℕ → Option (ℕ × MarginStyleOf)
box_at f place = option_map (placed place) (f place)

-- the margin boxes that have content, in the order of their numbers
unfoldable pub boxes_by : (ℕ → Option MarginStyleOf) → List (ℕ × MarginStyleOf)
boxes_by f = filter_map (box_at f) (range_with_len 0 margin_box_count)

-- the style of the box of a number
abbrev pub style_at : ℕ → List (ℕ × MarginStyleOf) → Option MarginStyleOf
style_at place boxes = option_map (λ b. b.1) (find (λ b. b.0 == place) boxes)

-- the cells of a name; without any they are those of no name
abbrev pub or_cells : {A : Type 0} → List A → List A → List A
or_cells first [] = first
or_cells first (c ∷ cells) = c ∷ cells

-- the cells of a name by those of no name and its own, if they are there
abbrev pub found_cells : {A : Type 0} → Option (List A) → Option (List A) → Option (List A)
found_cells None cells = None
found_cells (Some first) None = Some first
found_cells (Some first) (Some cells) = Some (or_cells first cells)

-- the cells of all names, where those of no name come first
abbrev pub filled : {A : Type 0} → List (List A) → List (List A)
filled rows = map (or_cells (get_or rows 0 [])) rows

-- the style of the margin box of a number on the pages of an index, a name and a kind
abbrev pub style_of : List (List (List (ℕ × MarginStyleOf))) → ℕ → NameId → PageKind → ℕ → Option MarginStyleOf
style_of rows index name kind place =
    option_and_then (style_at place) (option_and_then (λ row. slice_get row (cell_of index kind)) (row_of rows name))

-- neither its size nor its line height is negative
abbrev pub IsGoodStyle : MarginStyleOf → Type 0
IsGoodStyle s = (pos 0 ≤ℤ s.size) × (pos 0 ≤ℤ s.line_height)

-- so of the style of each box on each page
abbrev pub AreGoodStyles : List (List (List (ℕ × MarginStyleOf))) → Type 0
AreGoodStyles rows =
    (index : ℕ) (name : NameId) (kind : PageKind) (place : ℕ) (s : MarginStyleOf) →
    style_of rows index name kind place ≡ Some s →
    IsGoodStyle s

-- the style that each margin box has on each page is the one of its name and its pseudo-classes
abbrev pub AreMarginStyles : List PageRule → List (List ℕ) → List (List (List (ℕ × MarginStyleOf))) → Type 0
AreMarginStyles rules names m =
    (index : ℕ) (name : NameId) (kind : PageKind) (place : ℕ) →
    style_of m index name kind place ≡ margin_style rules (text_of names name) (classes_of index kind) place

-- the margin boxes of the pages of a name, cell by cell
abbrev pub boxes_of_name : List PageRule → List ℕ → List (List (ℕ × MarginStyleOf))
boxes_of_name rules name = map (λ c. boxes_by (margin_style rules name c)) six_pages
