-- Boxes whose borders and paddings stand again where a page parts them (css-break-3, 5.4: `box-decoration-break`).
use Rattle.std.specs.Prelude.{◌≡◌, ℕ, ℤ, pos, ◌+ℤ◌, ◌≤ℤ◌, ◌^◌, ◌==◌, List, [], ◌∷◌, Option, None, Some, Bool, false, not, slice_get, if◌then◌else◌}
use Rattle.std.specs.List.{All, filter, list_any}
use Rattle.bk_num.specs.declared.sides.BoxSide.{BoxSide}
use Rattle.boxes.specs.declared.place.Event.{Event}
use Rattle.boxes.specs.declared.place.Event.TheVariants.{Opens, Closes, Leaf}
use Rattle.boxes.specs.declared.props.BoxProps.{BoxProps}
use Rattle.boxes.specs.Spans.{frame_at, span_along}
use Rattle.boxes.specs.Tree.{Tree, open_before}

-- whether an event closes a box
abbrev pub closes_box : ℕ → Event → Bool
closes_box b (Opens c) = false
closes_box b (Closes c) = c == b
closes_box b (Leaf l) = false

-- the boxes that are open through a run of events, the innermost first: open before it, and not closed in it
abbrev pub open_through : Tree → ℕ → List Event → List ℕ
open_through t from run = filter (λ b. not (list_any (closes_box b) run)) (open_before t.events from)

-- the border and padding at a side that stand again where a page parts a box, in a containing block of a width: none
-- where the box is sliced
abbrev pub clone_edge : BoxSide → Option BoxProps → ℤ → ℤ
clone_edge side None width = pos 0
clone_edge side (Some p) width = if p.clones then frame_at p side width else pos 0

-- the sum of these of some open boxes, the innermost first, each in the next one
abbrev pub clone_edges : Tree → ℤ → BoxSide → List ℕ → ℤ
clone_edges t measure side [] = pos 0
clone_edges t measure side (b ∷ outer) =
    clone_edges t measure side outer +ℤ clone_edge side (slice_get t.boxes b) (span_along t.boxes measure outer).1

-- what stands again takes room: from 0 to 2^40 units
abbrev pub IsRoom : ℤ → Type 0
IsRoom z = (pos 0 ≤ℤ z) × (z ≤ℤ pos (2 ^ 40))

-- no box of a tree stands again
abbrev pub AreSliced : List BoxProps → Type 0
AreSliced boxes = All (λ p. p.clones ≡ false) boxes
