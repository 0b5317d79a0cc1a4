-- The items of a solid on a page, with their places in units from the page's top left.
use Rattle.std.specs.Prelude.{ℕ, ℤ, pos, ◌+ℤ◌, ◌-ℤ◌, List, [], ◌∷◌, ◌++◌, map, length, Bool, true, false, Option, Some, None, ◌==◌, slice_get, slice_index_or, slice_range, if◌then◌else◌}
use Rattle.metrics.specs.Face.{FontFace}
use Rattle.boxes.specs.Lines.{LineView}
use Rattle.boxes.specs.Tree.{Tree, open_before, rest_of}
use Rattle.boxes.specs.declared.item.Item.{Item}
use Rattle.boxes.specs.declared.leaf.Leaf.{Leaf as LeafData}
use Rattle.boxes.specs.declared.leaf.Lead.{Lead}
use Rattle.boxes.specs.declared.leaf.Span.{Span}
use Rattle.boxes.specs.declared.page.Placed.{Placed}
use Rattle.boxes.specs.declared.place.Event.{Event}
use Rattle.boxes.specs.declared.place.Event.TheVariants.{Opens, Closes, Leaf}
use Rattle.boxes.specs.declared.props.BoxProps.{BoxProps}
use Rattle.metrics.specs.Widths.{text_width}
use Rattle.line_fill.specs.Widths.{is_hyphened, pen_of}
use Rattle.line_place.specs.Extents.{extent_of}
use Rattle.line_place.specs.Placing.{runs_of}
use Rattle.line_place.specs.declared.place.Run.{Run}
use Rattle.paint.specs.Areas.{area_of, style_of}
use Rattle.paint.specs.Opens.{content_along, border_in, boxes_from}
use Rattle.boxes.specs.declared.span.Content.{Content}
use Rattle.paint.specs.declared.item.SolidOrigin.{SolidOrigin}
use Rattle.paint.specs.Views.{area_item, edge_item, hyphen_item, text_item}

-- the span of a number; each run of a line names one that is there
abbrev pub span_of : LeafData → ℕ → Span
span_of leaf n = slice_index_or leaf.spans n leaf.strut

-- a run of a line whose content begins at a left, on a baseline
unfoldable pub run_item : List FontFace → LeafData → ℤ → ℤ → Run → Item
run_item faces leaf left y r = if r.hyphen then hyphen_item faces (style_of (left +ℤ r.x) y (span_of leaf r.span))
    else text_item faces (style_of (left +ℤ r.x) y (span_of leaf r.span)) (slice_range leaf.text r.from r.to)

-- where the content of a marker's item begins, the item being one of some open boxes
abbrev pub lead_right : Tree → SolidOrigin → List ℕ → Lead → ℤ
lead_right t o boxes lead = o.left +ℤ (content_along t o.width (boxes_from lead.owner boxes)).left

-- where the marker begins: its right edge stands there
abbrev pub lead_left : List FontFace → Tree → SolidOrigin → List ℕ → Lead → ℤ
lead_left faces t o boxes lead =
    lead_right t o boxes lead -ℤ pos (text_width (pen_of faces lead.span) lead.text)

-- a marker: its right edge stands at the left of its item's content (CSS 2.1, 12.5.1: outside), the item being one of
-- some open boxes; spaces at its end count in its width
unfoldable pub lead_item : List FontFace → Tree → SolidOrigin → List ℕ → ℤ → Lead → Item
lead_item faces t o boxes y lead = text_item faces (style_of (lead_left faces t o boxes lead) y lead.span) lead.text

-- the line of a leaf from an offset to another
abbrev pub line_between : LeafData → ℕ → ℕ → LineView
line_between leaf from to = record { from = from; to = to; hyphen = is_hyphened leaf.text to }

-- the line of a leaf that a placed solid is: it ends inside its leaf or with it
abbrev pub line_of : LeafData → Placed → LineView
line_of leaf s = line_between leaf s.at.offset (if s.end.event == s.at.event then s.end.offset else length leaf.text)

-- the markers of a leaf's first line, and the runs of a line, the hyphen among them, where the content begins at a left
abbrev pub words_items : List FontFace → Tree → SolidOrigin → List ℕ → LeafData → LineView → Content → ℤ → List Item
words_items faces t o boxes leaf line content y =
    (if line.from == 0 then map (lead_item faces t o boxes y) leaf.leads else [])
    ++ map (run_item faces leaf (o.left +ℤ content.left) y) (runs_of faces leaf line content.width)

-- a line of a leaf in some open boxes, whose content has a left and a width: its area, markers and runs
abbrev pub line_items_in : List FontFace → Tree → SolidOrigin → List ℕ → LeafData → Placed → LineView → Content →
    List Item
line_items_in faces t o boxes leaf s line content =
    area_item (area_of o content s)
    ∷ words_items faces t o boxes leaf line content ((o.top +ℤ s.top) +ℤ
    (extent_of faces leaf line.from line.to).baseline)

-- the items of the line of a leaf that a solid is, in the boxes that are open there
unfoldable pub line_items : List FontFace → Tree → SolidOrigin → Placed → LeafData → List Item
line_items faces t o s leaf = line_items_in faces t o (open_before t.events s.at.event) leaf s (line_of leaf s)
    (content_along t o.width (open_before t.events s.at.event))

-- an edge of a box in the content of the box around it: it is as wide as the border box
abbrev pub box_edge : SolidOrigin → Bool → Placed → Content → BoxProps → Item
box_edge o opens s outer p = edge_item opens (area_of o (border_in p outer) s)

-- what is made of a value, and nothing where there is none
abbrev pub for_some : {A B : Type 0} → (A → List B) → Option A → List B
for_some f None = []
for_some f (Some x) = f x

-- the items of a solid, which its event tells: the upper edge of a box, its lower edge, or a line of a leaf
abbrev pub event_items : List FontFace → Tree → SolidOrigin → Placed → Option Event → List Item
event_items faces t o s None = []
event_items faces t o s (Some (Opens b)) = for_some (λ (p : BoxProps). box_edge o true s
    (content_along t o.width (open_before t.events s.at.event)) p ∷ []) (slice_get t.boxes b)
event_items faces t o s (Some (Closes b)) = for_some (λ (p : BoxProps). box_edge o false s
    (content_along t o.width (rest_of (open_before t.events s.at.event))) p ∷ []) (slice_get t.boxes b)
event_items faces t o s (Some (Leaf l)) = for_some (line_items faces t o s) (slice_get t.leaves l)

-- the items of a solid, by its event
unfoldable pub solid_items : List FontFace → Tree → SolidOrigin → Placed → List Item
solid_items faces t o s = event_items faces t o s (slice_get t.events s.at.event)
