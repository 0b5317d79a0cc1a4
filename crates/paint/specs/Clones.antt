-- The boxes that a page's start and its end part, and the edges that stand there again (css-break-3, 5.4:
-- `box-decoration-break: clone`).
use Rattle.std.specs.Prelude.{ℕ, suc, ℤ, ◌+ℤ◌, List, [], ◌∷◌, Option, None, Some, Bool, ◌&&◌, ◌==◌, slice_get, if◌then◌else◌}
use Rattle.std.specs.Int.{int_max}
use Rattle.std.specs.List.{last_or, list_any}
use Rattle.bk_num.specs.declared.sides.BoxSide.TheVariants as side
use Rattle.boxes.specs.Clones.{clone_edges, open_through}
use Rattle.boxes.specs.Spans.{frame_at, span_along}
use Rattle.boxes.specs.Tree.{Tree, is_leaf, open_before}
use Rattle.boxes.specs.declared.page.Placed.{Placed}
use Rattle.boxes.specs.declared.props.BoxProps.{BoxProps}
use Rattle.seams.specs.Runs.{events_in, run_end, run_start, solid_after, solid_before}
use Rattle.paint.specs.Fragments.{here}
use Rattle.paint.specs.declared.extent.VerticalExtent.{VerticalExtent}

-- ---- the boxes that are parted

-- where the run before a solid begins and ends; before a line inside its leaf there is none
abbrev pub run_before : Tree → Placed → ℕ × ℕ
run_before t s = if s.at.offset == 0 then (run_start t (solid_before t s.at.event), run_end t (Some s.at.event))
    else (s.at.event, s.at.event)

-- whether a solid is a line that ends inside its leaf
abbrev pub ends_inside : Tree → Placed → Bool
ends_inside t s = is_leaf (slice_get t.events s.at.event) && (s.end.event == s.at.event)

-- where the run behind a solid begins and ends; behind a line that ends inside its leaf there is none
abbrev pub run_behind : Tree → Placed → ℕ × ℕ
run_behind t s = if ends_inside t s then (s.at.event, s.at.event)
    else (run_start t (Some s.at.event), run_end t (solid_after t (suc s.at.event)))

-- the boxes that are open through the run before a page's first solid, the innermost first; none without a solid
abbrev pub parted_before : Tree → Option Placed → List ℕ
parted_before t None = []
parted_before t (Some s) = open_through t (run_before t s).0 (events_in t (run_before t s).0 (run_before t s).1)

-- and through that behind its last one
abbrev pub parted_behind : Tree → Option Placed → List ℕ
parted_behind t None = []
parted_behind t (Some s) = open_through t (run_behind t s).0 (events_in t (run_behind t s).0 (run_behind t s).1)

-- a page's first solid
abbrev pub first_solid : List Placed → Option Placed
first_solid solids = slice_get solids 0

-- a page's last solid
abbrev pub last_solid : List Placed → Option Placed
last_solid solids = last_or None solids

-- ---- upper edges

-- the upper edge that a box has again, if it clones: below those of the clone boxes outside it, and as high as its
-- border and padding
abbrev pub upper_again : BoxProps → ℤ → ℤ → Option VerticalExtent
upper_again p above inside = here p.clones (record { top = above; bottom = inside })

-- where a box that an event opens has its upper edge again: if it is parted at the page's start
abbrev pub head_edge : Tree → ℤ → List Placed → ℕ → ℕ → BoxProps → Option VerticalExtent
head_edge t measure solids k b p = if list_any (λ c. c == b) (parted_before t (first_solid solids)) then
    upper_again p (clone_edges t measure side.Top (open_before t.events k))
    (clone_edges t measure side.Top (b ∷ open_before t.events k)) else None

-- ---- lower edges

-- down to where a box reaches: its solids, and the fragments of the clone boxes inside it, if there are any
abbrev pub lowest : Option ℤ → VerticalExtent → ℤ
lowest None e = e.bottom
lowest (Some inner) e = int_max inner e.bottom

-- the lower edge that a box has again, if it clones: below its solids and the clone boxes inside it
abbrev pub lower_again : Option BoxProps → ℤ → Option ℤ → Option VerticalExtent → Option VerticalExtent
lower_again None width inner reach = None
lower_again (Some p) width inner None = None
lower_again (Some p) width inner (Some e) =
    here p.clones (record { top = lowest inner e; bottom = lowest inner e +ℤ frame_at p side.Bottom width })

-- down to where the clone boxes reach, with a box more around those inside it
abbrev pub bottom_with : Option ℤ → Option VerticalExtent → Option ℤ
bottom_with inner None = inner
bottom_with inner (Some edge) = Some edge.bottom

-- where a box has its lower edge again that is one of some parted boxes, the innermost first, the clone boxes inside
-- these reaching down to a bottom; each box reaches so far by its solids
abbrev pub lower_along : Tree → ℤ → (ℕ → Option VerticalExtent) → ℕ → Option ℤ → List ℕ → Option VerticalExtent
lower_along t measure reach b inner [] = None
lower_along t measure reach b inner (c ∷ outer) = if c == b then
    lower_again (slice_get t.boxes c) (span_along t.boxes measure outer).1 inner (reach c) else
    lower_along t measure reach b (bottom_with inner
    (lower_again (slice_get t.boxes c) (span_along t.boxes measure outer).1 inner (reach c))) outer

-- where a box has its lower edge again: if it is parted at the page's end
abbrev pub foot_edge : Tree → ℤ → List Placed → (ℕ → Option VerticalExtent) → ℕ → Option VerticalExtent
foot_edge t measure solids reach b = lower_along t measure reach b None (parted_behind t (last_solid solids))

-- ---- fragments

-- a fragment begins with the upper edge that stands again
abbrev pub with_upper : Option VerticalExtent → Option VerticalExtent → Option VerticalExtent
with_upper None reach = reach
with_upper (Some edge) None = None
with_upper (Some edge) (Some e) = Some (record { top = edge.top; bottom = e.bottom })

-- and ends with the lower one
abbrev pub with_lower : Option VerticalExtent → Option VerticalExtent → Option VerticalExtent
with_lower None reach = reach
with_lower (Some edge) None = None
with_lower (Some edge) (Some e) = Some (record { top = e.top; bottom = edge.bottom })
