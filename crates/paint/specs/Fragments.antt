-- How far a box reaches on a page: over the solids that stand in it (css-break-3, 5.4: a background covers each
-- fragment of its box).
use Rattle.std.specs.Prelude.{ℕ, ◌+ℤ◌, List, [], ◌∷◌, Option, None, Some, Bool, false, ◌==◌, slice_get, if◌then◌else◌}
use Rattle.std.specs.Int.{int_max, int_min}
use Rattle.std.specs.List.{list_any}
use Rattle.boxes.specs.Clones.{closes_box as closes}
use Rattle.boxes.specs.Tree.{Tree, open_before}
use Rattle.boxes.specs.declared.page.Placed.{Placed}
use Rattle.boxes.specs.declared.place.Event.{Event}
use Rattle.boxes.specs.declared.place.Event.TheVariants.{Opens, Closes, Leaf}
use Rattle.paint.specs.declared.extent.VerticalExtent.{VerticalExtent}

-- the boxes in which an event stands, the innermost first: those that are open before it, and the one that it opens
abbrev pub boxes_with : Option Event → List ℕ → List ℕ
boxes_with None boxes = boxes
boxes_with (Some (Opens b)) boxes = b ∷ boxes
boxes_with (Some (Closes b)) boxes = boxes
boxes_with (Some (Leaf l)) boxes = boxes

-- the boxes in which the event of a number stands
abbrev pub boxes_at : List Event → ℕ → List ℕ
boxes_at es k = boxes_with (slice_get es k) (open_before es k)

-- whether a solid stands in a box: from its Open to its Close, its own edges among them
abbrev pub stands_in : List Event → ℕ → Placed → Bool
stands_in es b s = list_any (λ c. c == b) (boxes_at es s.at.event)

-- whether an event opens a box
abbrev pub opens_box : ℕ → Option Event → Bool
opens_box b None = false
opens_box b (Some (Opens c)) = c == b
opens_box b (Some (Closes c)) = false
opens_box b (Some (Leaf l)) = false

-- whether an event closes a box
abbrev pub closes_box : ℕ → Option Event → Bool
closes_box b None = false
closes_box b (Some e) = closes b e

-- whether a solid is the upper edge of a box
abbrev pub is_upper : List Event → ℕ → Placed → Bool
is_upper es b s = opens_box b (slice_get es s.at.event)

-- whether a solid is the lower edge of a box
abbrev pub is_lower : List Event → ℕ → Placed → Bool
is_lower es b s = closes_box b (slice_get es s.at.event)

-- from the top to the bottom of a solid
abbrev pub extent_of : Placed → VerticalExtent
extent_of s = record { top = s.top; bottom = s.top +ℤ s.height }

-- the least top and the greatest bottom
abbrev pub join : Option VerticalExtent → Option VerticalExtent → Option VerticalExtent
join None b = b
join (Some a) None = Some a
join (Some a) (Some b) = Some (record { top = int_min a.top b.top; bottom = int_max a.bottom b.bottom })

-- an extent, where it counts
abbrev pub here : Bool → VerticalExtent → Option VerticalExtent
here passes e = if passes then Some e else None

-- the least top and the greatest bottom of those solids that pass a test
abbrev pub reach_by : (Placed → Bool) → List Placed → Option VerticalExtent
reach_by test [] = None
reach_by test (s ∷ solids) = join (here (test s) (extent_of s)) (reach_by test solids)

-- how far a box of a number reaches on a page, over the solids that stand in it
abbrev pub reach_of : Tree → List Placed → ℕ → Option VerticalExtent
reach_of t solids b = reach_by (stands_in t.events b) solids
