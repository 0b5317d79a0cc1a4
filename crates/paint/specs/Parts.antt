-- The boxes that were met on the way along a page's solids.
use Rattle.std.specs.Prelude.{◌≡◌, ◌<◌, ◌≤◌, ◌≤ℤ◌, ◌^◌, ◌*◌, ◌++◌, ◌+ℤ◌, ℕ, ℤ, pos, suc, List, [], ◌∷◌, Option, None, Some, Bool, true, false, not, ◌&&◌, ◌||◌, ◌==◌, nat_lt, map, length, slice_get, slice_set, if◌then◌else◌}
use Rattle.std.specs.List.{filter}
use Rattle.std.specs.Option.{ForSome, option_or}
use Rattle.bk_num.specs.declared.sides.BoxSide.TheVariants as side
use Rattle.boxes.specs.Clones.{clone_edge, clone_edges}
use Rattle.boxes.specs.Spans.{span_or}
use Rattle.boxes.specs.Tree.{Tree, first_of, is_opening, open_before}
use Rattle.boxes.specs.declared.item.Item.{Item}
use Rattle.boxes.specs.declared.page.Placed.{Placed}
use Rattle.boxes.specs.declared.place.Event.{Event}
use Rattle.boxes.specs.declared.place.Event.TheVariants.{Opens, Closes, Leaf}
use Rattle.boxes.specs.declared.props.BoxProps.{BoxProps}
use Rattle.paint.specs.Bounds.{IsNearReach}
use Rattle.paint.specs.Clones.{bottom_with, foot_edge, last_solid, lower_again, run_before, upper_again, with_lower, with_upper}
use Rattle.paint.specs.Fragments.{boxes_at, extent_of, here, is_lower, is_upper, join, reach_by, reach_of}
use Rattle.paint.specs.Items.{for_some}
use Rattle.paint.specs.Opens.{IsContentWithin, IsWide, content_along, content_of, pair_of}
use Rattle.paint.specs.Rects.{fragment_rects}
use Rattle.paint.specs.declared.extent.VerticalExtent.{VerticalExtent}
use Rattle.paint.specs.declared.item.SolidOrigin.{SolidOrigin}
use Rattle.boxes.specs.declared.span.Content.{Content}
use Rattle.paint.specs.declared.parts.Fragment.{Fragment}
use Rattle.paint.specs.declared.parts.Reached.{Reached}
use Rattle.seams.specs.Runs.{is_closing}

-- the upper edge that a box has again that was met: if it opens before an event
abbrev pub part_head : ℕ → Fragment → BoxProps → Option VerticalExtent
part_head from part p = if nat_lt part.event from then upper_again p part.above part.inside else None

-- a box that has an upper edge again, where it has one
abbrev pub with_head : Option VerticalExtent → Fragment → Fragment
with_head head p = record p { reach = with_upper head p.reach; upper = option_or head p.upper }

-- the rectangles of a box over its reach and its edges
abbrev pub own_rects : SolidOrigin → BoxProps → Fragment → List Item
own_rects o p part = fragment_rects o p part.around part.reach part.upper part.lower

-- the rectangles of a box that was met, which is parted at the page's start if it opens before an event
abbrev pub part_rects : Tree → SolidOrigin → ℕ → Fragment → List Item
part_rects t o from part =
    for_some (λ (p : BoxProps). own_rects o p (with_head (part_head from part p) part)) (slice_get t.boxes part.number)

-- a box and the place of the box around it
abbrev pub spine_of : List Fragment → List (ℕ × Option ℕ)
spine_of parts = map (λ (p : Fragment). (p.number, p.outer)) parts

-- all that is written down of boxes but how far they reach
abbrev pub bare : Fragment → Fragment
bare p = record p { reach = None }

-- the same of a list of boxes
abbrev pub bare_of : List Fragment → List Fragment
bare_of parts = map bare parts

-- a place stands below another, if there is one
abbrev pub IsBelow : ℕ → Option ℕ → Type 0
IsBelow c None = Unit {0}
IsBelow c (Some p) = p < c

-- the places of some open boxes, the innermost first
abbrev pub ArePlaces : List (ℕ × Option ℕ) → List ℕ → List ℕ → Type 0
ArePlaces spine [] [] = Unit {0}
ArePlaces spine [] (b ∷ boxes) = ⊥
ArePlaces spine (i ∷ places) [] = ⊥
ArePlaces spine (i ∷ places) (b ∷ boxes) =
    (slice_get spine i ≡ Some (b, first_of places)) × IsBelow i (first_of places) × ArePlaces spine places boxes

-- a solid: the places of the boxes in which it stands, and where it stands
pub record Mark : Type 0 where
  pub places : List ℕ
  pub extent : VerticalExtent

-- each mark names boxes that are open one in another
abbrev pub AreMarks : List (ℕ × Option ℕ) → List Mark → Type 0
AreMarks spine [] = Unit {0}
AreMarks spine (m ∷ marks) = ((boxes : List ℕ) × ArePlaces spine m.places boxes) × AreMarks spine marks

-- whether a place is the first one below a limit, or stands before that one
abbrev pub reaches : ℕ → ℕ → List ℕ → Bool
reaches lim j [] = false
reaches lim j (c ∷ places) = (c == j) || (not (nat_lt c lim) && reaches lim j places)

-- the extent of the marks that pass
abbrev pub over_marks : (List ℕ → Bool) → List Mark → Option VerticalExtent
over_marks p [] = None
over_marks p (m ∷ marks) = join (here (p m.places) m.extent) (over_marks p marks)

-- each box reaches over the marks in it, where boxes from a limit on were handed on to the boxes around them
abbrev pub HaveFrom : ℕ → List Fragment → List Mark → Type 0
HaveFrom lim parts marks =
    (j : ℕ) (p : Fragment) → slice_get parts j ≡ Some p → p.reach ≡ over_marks (reaches lim j) marks

-- each box was handed on
abbrev pub AreMerged : List Fragment → List Fragment → Type 0
AreMerged old new =
    (marks : List Mark) → AreMarks (spine_of old) marks → HaveFrom (length old) old marks → HaveFrom 0 new marks

-- each box stands after the box around it
abbrev pub HaveOuters : List Fragment → Type 0
HaveOuters parts = (j : ℕ) (p : Fragment) → slice_get parts j ≡ Some p → IsBelow j p.outer

-- the box at a place is handed on to the box around it
abbrev pub HandsTo : List Fragment → Fragment → Option ℕ → List Fragment → Type 0
HandsTo old p None new = new ≡ old
HandsTo old p (Some outer) new = (q : Fragment) × (slice_get old outer ≡ Some q)
    × (new ≡ slice_set old outer (record q { reach = join q.reach p.reach }))

-- the box at a place is handed on to the box around it, as far as its solids reach
abbrev pub IsHandedOn : List Fragment → ℕ → List Fragment → Type 0
IsHandedOn old at new = (p : Fragment) × (slice_get old at ≡ Some p) × HandsTo old p p.outer new

-- ---- the way along the events

-- the boxes open at ascending events, from one on and before another
abbrev pub AscendTo : ℕ → List Fragment → ℕ → Type 0
AscendTo k [] at = k ≤ at
AscendTo k (p ∷ parts) at = (k ≤ p.event) × AscendTo (suc p.event) parts at

-- some open boxes are among those that were met, the innermost at a place
pub record IsOn (parts : List Fragment) (boxes : List ℕ) (inner : Option ℕ) (at : ℕ) : Type 0 where
  pub places : List ℕ
  pub are : ArePlaces (spine_of parts) places boxes
  pub inner_is : inner ≡ first_of places
  pub outers : HaveOuters parts
  pub ascend : AscendTo 0 parts at

-- the edges of n boxes at a side: each is at most 2^28 units high
abbrev pub IsRoomOf : ℕ → ℤ → Type 0
IsRoomOf n z = (pos 0 ≤ℤ z) × (z ≤ℤ pos (2 ^ 28 * n))

-- what is written down of where a box stands
pub record IsOpened (t : Tree) (measure : ℤ) (p : Fragment) : Type 0 where
  pub opens : slice_get t.events p.event ≡ Some (Opens p.number)
  pub around_is : p.around ≡ content_along t measure (open_before t.events p.event)
  pub content_is : p.content ≡ content_along t measure (p.number ∷ open_before t.events p.event)
  pub above_is : p.above ≡ clone_edges t measure side.Top (open_before t.events p.event)
  pub inside_is : p.inside ≡ clone_edges t measure side.Top (p.number ∷ open_before t.events p.event)
  pub around_bounded : IsContentWithin (length (open_before t.events p.event)) p.around
  pub content_bounded : IsContentWithin (suc (length (open_before t.events p.event))) p.content
  pub above_bounded : IsRoomOf (length (open_before t.events p.event)) p.above
  pub inside_bounded : IsRoomOf (suc (length (open_before t.events p.event))) p.inside

-- the same of each box that was met
abbrev pub HaveOpened : Tree → ℤ → List Fragment → Type 0
HaveOpened t measure parts = (j : ℕ) (p : Fragment) → slice_get parts j ≡ Some p → IsOpened t measure p

-- the boxes that were met when all events before one were passed
pub record IsAt (t : Tree) (measure : ℤ) (parts : List Fragment) (r : Reached) : Type 0 where
  pub on : IsOn parts (open_before t.events r.event) r.inner r.event
  pub opened : HaveOpened t measure parts

-- no solid of a box was met
pub record IsFresh (p : Fragment) : Type 0 where
  pub no_reach : p.reach ≡ None
  pub no_upper : p.upper ≡ None
  pub no_lower : p.lower ≡ None

-- no solid of some boxes was met
abbrev pub HaveNone : List Fragment → Type 0
HaveNone [] = Unit {0}
HaveNone (p ∷ parts) = IsFresh p × HaveNone parts

-- further boxes, whose solids were not yet met
abbrev pub IsGrown : List Fragment → List Fragment → Type 0
IsGrown old new = (more : List Fragment) × (new ≡ old ++ more) × HaveNone more

-- the content of a frame: it begins at its left and is as wide as it
abbrev pub frame_content : ℤ → Content
frame_content measure = record { left = pos 0; width = measure }

-- the content of a box, and the frame's where there is none
abbrev pub content_or : ℤ → Option Fragment → Content
content_or measure None = frame_content measure
content_or measure (Some p) = p.content

-- the content of the box at a place, or the frame's
abbrev pub content_at : ℤ → List Fragment → Option ℕ → Content
content_at measure parts None = frame_content measure
content_at measure parts (Some i) = content_or measure (slice_get parts i)

-- the top edges that stand again of a box and of those around it, and none without a box
abbrev pub inside_or : Option Fragment → ℤ
inside_or None = pos 0
inside_or (Some p) = p.inside

-- the same of the box at a place
abbrev pub inside_at : List Fragment → Option ℕ → ℤ
inside_at parts None = pos 0
inside_at parts (Some i) = inside_or (slice_get parts i)

-- a box that opens at an event inside the box at a place
abbrev pub part_in : Tree → ℤ → List Fragment → Option ℕ → ℕ → ℕ → Fragment
part_in t measure parts inner event b = record {
  event = event;
  number = b;
  outer = inner;
  around = content_at measure parts inner;
  content = content_of (span_or (slice_get t.boxes b) (pair_of (content_at measure parts inner)));
  above = inside_at parts inner;
  inside =
      inside_at parts inner +ℤ clone_edge side.Top (slice_get t.boxes b) (content_at measure parts inner).width;
  reach = None;
  upper = None;
  lower = None;
}

-- the place of the box around the box at a place
abbrev pub LeavesTo : List Fragment → Option ℕ → Option ℕ → Type 0
LeavesTo parts None outer = outer ≡ None
LeavesTo parts (Some i) outer = (p : Fragment) × (slice_get parts i ≡ Some p) × (outer ≡ p.outer)

-- after an event where it opens a box, else before it
abbrev pub end_by : Option Event → ℕ → ℕ
end_by None k = k
end_by (Some (Opens b)) k = suc k
end_by (Some (Closes b)) k = k
end_by (Some (Leaf l)) k = k

-- the event of the first of some solids
abbrev pub first_event : List Placed → ℕ
first_event [] = 0
first_event (s ∷ solids) = s.at.event

-- ---- the solids

-- a box reaches over a solid more, and so does its edge where the solid is that
abbrev pub with_solid : Event → VerticalExtent → Fragment → Fragment
with_solid (Opens b) e p = record p { reach = join p.reach (Some e); upper = join p.upper (Some e) }
with_solid (Closes b) e p = record p { reach = join p.reach (Some e); lower = join p.lower (Some e) }
with_solid (Leaf l) e p = record p { reach = join p.reach (Some e) }

-- a solid is written down at the innermost box in which it stands
abbrev pub Extends : List Fragment → Option ℕ → Event → VerticalExtent → List Fragment → Type 0
Extends old None event e new = new ≡ old
Extends old (Some i) event e new =
    (p : Fragment) × (slice_get old i ≡ Some p) × (new ≡ slice_set old i (with_solid event e p))

-- whether a place is a certain one
abbrev pub is_at : Option ℕ → ℕ → Bool
is_at None j = false
is_at (Some p) j = p == j

-- the marks of solids
abbrev pub AreMarksOf : List (ℕ × Option ℕ) → List Event → List Placed → List Mark → Type 0
AreMarksOf spine es [] [] = Unit {0}
AreMarksOf spine es [] (m ∷ marks) = ⊥
AreMarksOf spine es (s ∷ solids) [] = ⊥
AreMarksOf spine es (s ∷ solids) (m ∷ marks) =
    ArePlaces spine m.places (boxes_at es s.at.event) × (m.extent ≡ extent_of s) × AreMarksOf spine es solids marks

-- a test that each event passes
abbrev pub any_event : Option Event → Bool
any_event e = true

-- the solids whose event passes a test
abbrev pub solids_by : (Option Event → Bool) → List Event → List Placed → List Placed
solids_by test es solids = filter (λ (s : Placed). test (slice_get es s.at.event)) solids

-- an extent of each box is that of the solids whose event passes a test and whose innermost box it is
pub record HaveBy (get : Fragment → Option VerticalExtent) (test : Option Event → Bool) (es : List Event)
    (solids : List Placed) (parts : List Fragment) : Type 0 where
  pub marks : List Mark
  pub are : AreMarksOf (spine_of parts) es (solids_by test es solids) marks
  pub own : (j : ℕ) (p : Fragment) → slice_get parts j ≡ Some p →
      get p ≡ over_marks (λ places. is_at (first_of places) j) marks

-- what is written down of boxes is that of the solids that were met
pub record HaveSolids (es : List Event) (solids : List Placed) (parts : List Fragment) : Type 0 where
  pub reaches : HaveBy (λ p. p.reach) any_event es solids parts
  pub uppers : HaveBy (λ p. p.upper) is_opening es solids parts
  pub lowers : HaveBy (λ p. p.lower) is_closing es solids parts

-- whatever solids were met, a further one was met too
abbrev pub AddsSolid : List Event → Placed → List Fragment → List Fragment → Type 0
AddsSolid es s old new = (solids : List Placed) → HaveSolids es solids old → HaveSolids es (solids ++ s ∷ []) new

-- the boxes in which a page's solids stand, each with the solids whose innermost box it is, up to where one has gone
pub record AreGathered (t : Tree) (measure : ℤ) (solids : List Placed) (parts : List Fragment)
    (at : Reached) : Type 0 where
  pub is_at : IsAt t measure parts at
  pub end : at.event ≤ length t.events
  pub behind : (s : Placed) → last_solid solids ≡ Some s →
      at.event ≡ end_by (slice_get t.events s.at.event) s.at.event
  pub have : HaveSolids t.events solids parts

-- ---- how far boxes reach

-- all that is written down of boxes but how far they and their edges reach
abbrev pub place_of : Fragment → Fragment
place_of p = record p { reach = None; upper = None; lower = None }

-- boxes that were met, each once
pub record AreMet (t : Tree) (measure : ℤ) (parts : List Fragment) : Type 0 where
  pub at : ℕ
  pub ascend : AscendTo 0 parts at
  pub end : at ≤ length t.events
  pub outers : HaveOuters parts
  pub opened : HaveOpened t measure parts

-- the boxes that were met, and how far they and their edges reach by the solids
pub record AreReached (t : Tree) (measure : ℤ) (solids : List Placed) (parts : List Fragment) : Type 0 where
  pub met : AreMet t measure parts
  pub reach : (j : ℕ) (p : Fragment) → slice_get parts j ≡ Some p → p.reach ≡ reach_of t solids p.number
  pub upper : (j : ℕ) (p : Fragment) → slice_get parts j ≡ Some p →
      p.upper ≡ reach_by (is_upper t.events p.number) solids
  pub lower : (j : ℕ) (p : Fragment) → slice_get parts j ≡ Some p →
      p.lower ≡ reach_by (is_lower t.events p.number) solids
  pub others : (b : ℕ) → ((j : ℕ) (p : Fragment) → slice_get parts j ≡ Some p → p.number ≡ b → ⊥) →
      reach_of t solids b ≡ None

-- ---- edges that stand again

-- some boxes are those that are open before an event
abbrev pub AreOpenSomewhere : Tree → List ℕ → Type 0
AreOpenSomewhere t boxes = (k : ℕ) × (k ≤ length t.events) × (boxes ≡ open_before t.events k)

-- the place of the innermost of some open boxes that were met
pub record IsInnermost (parts : List Fragment) (boxes : List ℕ) (inner : Option ℕ) : Type 0 where
  pub places : List ℕ
  pub are : ArePlaces (spine_of parts) places boxes
  pub inner_is : inner ≡ first_of places

-- the place of the innermost box that is left where a box closes: the box around it if it is that one
abbrev pub left_with : Option Fragment → ℕ → ℕ → Option ℕ
left_with None i number = Some i
left_with (Some p) i number = if p.number == number then p.outer else Some i

-- the same of a box at a place
abbrev pub left_by : List Fragment → Option ℕ → ℕ → Option ℕ
left_by parts None number = None
left_by parts (Some i) number = left_with (slice_get parts i) i number

-- whether a box clones
abbrev pub does_clone : Option BoxProps → Bool
does_clone None = false
does_clone (Some p) = p.clones

-- whether the box of a number does
abbrev pub clones_at : Tree → ℕ → Bool
clones_at t b = does_clone (slice_get t.boxes b)

-- a box that has a lower edge again, where it has one
abbrev pub with_foot : Option VerticalExtent → Fragment → Fragment
with_foot foot p = record p { reach = with_lower foot p.reach; lower = option_or foot p.lower }

-- before which event those boxes open that a page's start parts
abbrev pub begin_of : Tree → Option Placed → ℕ
begin_of t None = 0
begin_of t (Some s) = (run_before t s).0

-- a box of a tree that has no lower edge again yet
pub record IsUnclosed (t : Tree) (p : Fragment) : Type 0 where
  pub there : p.number < length t.boxes
  pub wide : IsWide p.around
  pub reach : ForSome p.reach IsNearReach

-- the lower edge that a box has again that was met, the clone boxes inside it reaching down to a bottom
abbrev pub foot_in : Tree → Option ℤ → Fragment → Option VerticalExtent
foot_in t inner p = lower_again (slice_get t.boxes p.number) p.around.width inner p.reach

-- the box at a place has its lower edge again, and reaches down to a bottom
abbrev pub IsClosedAgain : Tree → List Fragment → ℕ → Option ℤ → List Fragment → Option ℤ → Type 0
IsClosedAgain t old place inner new bottom = (p : Fragment) × (slice_get old place ≡ Some p) ×
    (bottom ≡ bottom_with inner (foot_in t inner p)) × (new ≡ slice_set old place (with_foot (foot_in t inner p) p))

-- boxes that have their lower edges again, where a function of their numbers gives one
abbrev pub HaveFeet : (ℕ → Option VerticalExtent) → List Fragment → List Fragment → Type 0
HaveFeet foot old new = (j : ℕ) (p : Fragment) → slice_get new j ≡ Some p →
    (q : Fragment) × (slice_get old j ≡ Some q) × (p ≡ with_foot (foot q.number) q)

-- the boxes of a page have the lower edges again that its end parts
pub record AreClosedAgain (t : Tree) (measure : ℤ) (solids : List Placed) (old new : List Fragment) : Type 0 where
  pub places : map place_of new ≡ map place_of old
  pub feet : HaveFeet (foot_edge t measure solids (reach_of t solids)) old new
