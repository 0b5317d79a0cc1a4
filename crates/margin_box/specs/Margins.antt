-- The items of the margin boxes of a page.
use Rattle.std.specs.Prelude.{ℕ, ◌<◌, ◌==◌, false, List, [], ◌∷◌, Option, length, map, slice_get, if◌then◌else◌}
use Rattle.std.specs.List.{flat_map, range_with_len}
use Rattle.bk_num.specs.declared.ids.FaceId.{FaceId}
use Rattle.metrics.specs.Face.{FontFace}
use Rattle.boxes.specs.Table.{cell_in, cell_of, row_of}
use Rattle.boxes.specs.declared.item.Item.{Item}
use Rattle.boxes.specs.declared.leaf.Span.{Span}
use Rattle.boxes.specs.declared.page.Page.{Page}
use Rattle.boxes.specs.declared.table.PageCell.{PageCell}
use Rattle.metrics.specs.Chosen.{face_by}
use Rattle.metrics.specs.Widths.{text_width}
use Rattle.line_fill.specs.Widths.{pen_of}
use Rattle.line_place.specs.Extents.{span_extent}
use Rattle.css_rules.specs.MarginBoxes.{margin_box_count}
use Rattle.page_ctx.specs.Margins.{MarginStyleOf, style_of}
use Rattle.paint.specs.Areas as paint
use Rattle.paint.specs.Items.{for_some}
use Rattle.paint.specs.Views.{text_item}
use Rattle.paint.specs.declared.item.Area.{Area}
use Rattle.paint.specs.declared.item.TextPlace.{TextPlace}
use Rattle.margin_box.specs.Areas.{areas_of}
use Rattle.margin_box.specs.Placing.{line_baseline, line_left}
use Rattle.margin_box.specs.Texts.{MarginsOf, box_text}
use Rattle.margin_box.specs.declared.items.Margins.{Margins}
use Rattle.margin_box.specs.declared.items.MarginText.{MarginText}

-- the strut of a margin box in a face: its style as a span over no text
abbrev pub strut_with : FaceId → MarginStyleOf → Span
strut_with face s = record {
  from = 0;
  to = 0;
  face = face;
  size = s.size;
  line_height = s.line_height;
  color = s.color;
  wrap = false;
  anywhere = false;
}

-- the strut in the face that its families, its style and its weight choose
abbrev pub strut_of : List FontFace → MarginStyleOf → Span
strut_of faces s = strut_with (face_by faces s.families s.italic s.weight) s

-- where a text of a strut stands in its box
abbrev pub placed_by : List FontFace → Area → MarginStyleOf → Span → List ℕ → TextPlace
placed_by faces area s strut text =
    paint.style_of (line_left area s.align (text_width (pen_of faces strut) text))
    (line_baseline area s.upright (span_extent faces strut)) strut

-- where a text stands in its box, by the style of the box
abbrev pub placed_in : List FontFace → Area → MarginStyleOf → List ℕ → TextPlace
placed_in faces area s text = placed_by faces area s (strut_of faces s) text

-- the item of a text in its box; an empty text has none
abbrev pub shown_in : List FontFace → Area → MarginStyleOf → List ℕ → List Item
shown_in faces area s text = if length text == 0 then [] else text_item faces (placed_in faces area s text) text ∷ []

-- the items of a box on a page; a box without content has no style
abbrev pub styled_items : MarginsOf → ℕ → Area → Option MarginStyleOf → List Item
styled_items m number area style =
    for_some (λ (s : MarginStyleOf). shown_in m.faces area s (box_text m number s.content)) style

-- the items of the box of a number, where the boxes have these areas
abbrev pub box_items : MarginsOf → ℕ → Page → List Area → ℕ → List Item
box_items m number page areas place =
    for_some (λ (area : Area). styled_items m number area (m.style page.index page.name page.kind place))
    (slice_get areas place)

-- the items of the boxes from 0 to 15, in their order
abbrev pub boxes_items : MarginsOf → ℕ → Page → List Area → List Item
boxes_items m number page areas = flat_map (box_items m number page areas) (range_with_len 0 margin_box_count)

-- in the areas that a page box gives them
abbrev pub items_in : MarginsOf → ℕ → Page → PageCell → List Item
items_in m number page cell = boxes_items m number page (areas_of cell)

-- the items of a page that is one of the list
abbrev pub items_on : MarginsOf → ℕ → Page → List Item
items_on m number page = for_some (items_in m number page) (m.cell page.index page.name page.kind)

-- the items of the margin boxes of a page, by its place in the list, in the order of the boxes
unfoldable pub margin_items : MarginsOf → ℕ → List Item
margin_items m number = for_some (items_on m number) (slice_get m.pages number)

-- what margin boxes are printed with, where the page boxes stand in a table
abbrev pub margins_in : Margins → MarginsOf
margins_in m = record {
  faces = m.faces.now;
  flow = m.flow.now;
  pages = m.list.now.pages;
  numbers = m.numbers.now;
  cell = λ index name kind. cell_in (row_of m.styles.now.table.rows name) (cell_of index kind);
  style = λ index name kind place. style_of m.styles.now.boxes index name kind place;
}

-- the items that placed texts are, each face by its name
abbrev pub items_of : List FontFace → List MarginText → List Item
items_of faces texts = map (λ (m : MarginText). text_item faces m.style m.text) texts

-- the face that a placed text names is there
abbrev pub HasFace : List FontFace → MarginText → Type 0
HasFace faces m = m.style.face.0 < length faces
