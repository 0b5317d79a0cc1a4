-- The items of a page, in the order of the listing.
use Rattle.std.specs.Prelude.{ℕ, pos, ◌+ℤ◌, ◌-ℤ◌, List, [], ◌∷◌, ◌++◌, Option, None, Some, ◌==◌, length, slice_get, if◌then◌else◌}
use Rattle.std.specs.List.{flat_map, range_with_len}
use Rattle.std.specs.Option.{option_or}
use Rattle.bk_num.specs.Units.{floor_div}
use Rattle.bk_num.specs.Colors.{black}
use Rattle.metrics.specs.Face.{FontFace}
use Rattle.bk_num.specs.Limits.{separator}
use Rattle.boxes.specs.Tree.{Tree, open_before}
use Rattle.boxes.specs.declared.flow.Flow.{Flow}
use Rattle.boxes.specs.declared.flow.Note.{Note}
use Rattle.boxes.specs.declared.frames.Frame.{Frame}
use Rattle.boxes.specs.declared.item.Item.{Item}
use Rattle.boxes.specs.declared.page.Page.{Page}
use Rattle.boxes.specs.declared.page.Placed.{Placed}
use Rattle.boxes.specs.declared.place.Event.{Event}
use Rattle.boxes.specs.declared.place.Event.TheVariants.{Opens, Closes, Leaf}
use Rattle.boxes.specs.declared.props.BoxProps.{BoxProps}
use Rattle.notes.specs.Notes.{placed_height}
use Rattle.paint.specs.Clones.{foot_edge, head_edge, with_lower, with_upper}
use Rattle.paint.specs.Fragments.{is_lower, is_upper, reach_by, reach_of}
use Rattle.paint.specs.Items.{for_some, solid_items}
use Rattle.paint.specs.Opens.{content_along}
use Rattle.paint.specs.Rects.{fragment_rects}
use Rattle.paint.specs.declared.extent.VerticalExtent.{VerticalExtent}
use Rattle.paint.specs.declared.item.Area.{Area}
use Rattle.paint.specs.declared.item.SolidOrigin.{SolidOrigin}
use Rattle.paint.specs.Views.{rect_item}

-- the rectangles of a box that an event opens, where its solids and its own edges among them reach so far, and where it
-- has its upper and its lower edge again
abbrev pub opened_by : Tree → SolidOrigin → ℕ → Option VerticalExtent → Option VerticalExtent → Option VerticalExtent →
    Option VerticalExtent → Option VerticalExtent → BoxProps → List Item
opened_by t o k reach upper lower head foot p =
    fragment_rects o p (content_along t o.width (open_before t.events k)) (with_upper head (with_lower foot reach))
    (option_or head upper) (option_or foot lower)

-- the rectangles of the box that an event opens, over the solids of the page that stand in it
abbrev pub opened_rects : Tree → SolidOrigin → List Placed → ℕ → Option Event → List Item
opened_rects t o solids k None = []
opened_rects t o solids k (Some (Opens b)) =
    for_some (λ (p : BoxProps). opened_by t o k (reach_of t solids b) (reach_by (is_upper t.events b) solids)
    (reach_by (is_lower t.events b) solids) (head_edge t o.width solids k b p)
    (foot_edge t o.width solids (reach_of t solids) b) p) (slice_get t.boxes b)
opened_rects t o solids k (Some (Closes b)) = []
opened_rects t o solids k (Some (Leaf l)) = []

-- the rectangles of the box that the event of a number opens
abbrev pub rects_at : Tree → SolidOrigin → List Placed → ℕ → List Item
rects_at t o solids k = opened_rects t o solids k (slice_get t.events k)

-- the backgrounds and borders of the boxes of a tree that have one of the page's solids, in the order of Open
unfoldable pub rects_of : Tree → SolidOrigin → List Placed → List Item
rects_of t o solids = flat_map (rects_at t o solids) (range_with_len 0 (length t.events))

-- what is painted of a tree: the rectangles of its boxes, then its solids in order
abbrev pub tree_items : List FontFace → Tree → SolidOrigin → List Placed → List Item
tree_items faces t o solids = rects_of t o solids ++ flat_map (solid_items faces t o) solids

-- the main tree's solids count from the frame's left and top
abbrev pub flow_origin : Frame → SolidOrigin
flow_origin f = record { left = f.left; top = f.top; width = f.width }

-- the note area stands at the frame's foot, and the notes' solids count from its top
abbrev pub area_origin : Frame → List (ℕ × Placed) → SolidOrigin
area_origin f notes = record { left = f.left; top = (f.top +ℤ f.height) -ℤ placed_height notes; width = f.width }

-- where the separator stands: it is as wide as a third of the frame, 64 units high, and begins in the middle of its
-- room
abbrev pub separator_area : SolidOrigin → Area
separator_area o = record { x = o.left; y = o.top +ℤ floor_div separator 2; w = floor_div o.width 3; h = pos 64 }

-- the separator, a black line
abbrev pub separator_at : SolidOrigin → Item
separator_at o = rect_item (separator_area o) black

-- the solids of a note on the page
abbrev pub solids_of : ℕ → List (ℕ × Placed) → List Placed
solids_of n [] = []
solids_of n ((m, s) ∷ notes) = if m == n then s ∷ solids_of n notes else solids_of n notes

-- what is painted of a note of the flow, by its number
abbrev pub note_items : List FontFace → List Note → SolidOrigin → List (ℕ × Placed) → ℕ → List Item
note_items faces all o notes n =
    for_some (λ (note : Note). tree_items faces note.body o (solids_of n notes)) (slice_get all n)

-- the note area of a page: its separator, then note after note its rectangles and its solids
abbrev pub area_items : List FontFace → List Note → Frame → List (ℕ × Placed) → List Item
area_items faces all f [] = []
area_items faces all f (n ∷ notes) = separator_at (area_origin f (n ∷ notes))
    ∷ flat_map (note_items faces all (area_origin f (n ∷ notes)) (n ∷ notes)) (range_with_len 0 (length all))

-- the items of a page: the main tree's, then those of the note area
abbrev pub items_of : List FontFace → Flow → Page → List Item
items_of faces flow page =
    tree_items faces flow.main (flow_origin page.frame) page.solids ++ area_items faces flow.notes page.frame page.notes
