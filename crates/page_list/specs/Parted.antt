-- That the solids on the pages are all that the tree has (css-break-3, 2: content is divided, and none is lost or shown
-- twice).
use Rattle.std.specs.Prelude.{◌≡◌, ℕ, suc, true, ◌+◌, ◌<◌, ◌≤◌, ◌==◌, List, [], ◌∷◌, Option, None, Some, length, slice_get, slice_range, if◌then◌else◌}
use Rattle.std.specs.List.{flat_map, All}
use Rattle.seams.specs.Seams.{seam_of}
use Rattle.boxes.specs.Steps.{IsRun}
use Rattle.boxes.specs.Tree.{Tree}
use Rattle.boxes.specs.declared.leaf.Leaf.{Leaf as LeafData}
use Rattle.boxes.specs.declared.page.Page.{Page}
use Rattle.boxes.specs.declared.page.Placed.{Placed}
use Rattle.boxes.specs.declared.page.SolidKind.{SolidKind}
use Rattle.boxes.specs.declared.page.SolidKind.TheVariants.{Line, OpenEdge, CloseEdge}
use Rattle.boxes.specs.declared.place.Event.{Event}
use Rattle.boxes.specs.declared.place.Event.TheVariants.{Opens, Closes, Leaf}
use Rattle.boxes.specs.declared.place.Position.{Position}
use Rattle.boxes.specs.declared.props.BoxProps.{BoxProps}
use Rattle.line_fill.specs.LineEnd.{IsEndPlace, IsLineBetween}
use Rattle.cursor.specs.Remainder.{end_of}
use Rattle.seams.specs.Runs.{solid_after, is_solid}
use Rattle.note_list.specs.Calls.{start_place}
use Rattle.boxes.specs.Frames.{PageFrames}
use Rattle.page_list.specs.Pages.{meets_at}

-- a line ends after it begins, and at a place at which lines of its leaf may end
pub record IsPartOfLeaf (t : Tree) (p : Placed) : Type 0 where
  pub number : ℕ
  pub leaf : LeafData
  pub to : ℕ
  pub names : slice_get t.events p.at.event ≡ Some (Leaf number)
  pub has : slice_get t.leaves number ≡ Some leaf
  pub after : p.at.offset < to
  pub within : to ≤ length leaf.text
  pub place : IsEndPlace leaf to
  pub ends : p.end ≡ end_of p.at.event (length leaf.text) to
  pub kind_is : p.kind ≡ Line

-- an edge is all that its event has
pub record IsWholeEdge (kind : SolidKind) (p : Placed) : Type 0 where
  pub ends : p.end ≡ record { event = p.at.event + 1; offset = 0 }
  pub kind_is : p.kind ≡ kind

-- a solid of a tree: a part of a leaf, or all of an edge
pub data IsPart (t : Tree) (p : Placed) : Type 0 where
  line : IsPartOfLeaf t p → IsPart t p
  upper : (b : ℕ) → slice_get t.events p.at.event ≡ Some (Opens b) → IsWholeEdge (OpenEdge b) p → IsPart t p
  lower : (b : ℕ) → slice_get t.events p.at.event ≡ Some (Closes b) → IsWholeEdge (CloseEdge b) p → IsPart t p

-- the solid that stands next at a place: it begins there, or at the start of the first event from there on that is one
pub record IsNextSolid (t : Tree) (at : Position) (p : Placed) : Type 0 where
  pub found : solid_after t at.event ≡ Some p.at.event
  pub begins : p.at.offset ≡ (if p.at.event == at.event then at.offset else 0)
  pub part : IsPart t p

-- solids from a place to the tree's end, each the next one where the one before it ends
abbrev pub AreNextSolids : Tree → Position → List Placed → Type 0
AreNextSolids t = IsRun (λ at p to. IsNextSolid t at p × (to ≡ p.end)) (λ at. solid_after t at.event ≡ None)

-- each edge once, and lines whose ranges part the text of each leaf, all in order
abbrev pub HoldsAll : Tree → List Placed → Type 0
HoldsAll t solids = AreNextSolids t start_place solids

-- where a line that is placed ends in its leaf: inside it, or with it
abbrev pub stop_in : LeafData → Placed → ℕ
stop_in leaf p = if p.end.event == p.at.event then p.end.offset else length leaf.text

-- a solid that stands at a leaf is a line of it between two places
abbrev pub IsLineThere : Tree → Placed → Type 0
IsLineThere t p = (number : ℕ) (leaf : LeafData) → slice_get t.events p.at.event ≡ Some (Leaf number) →
    slice_get t.leaves number ≡ Some leaf → IsLineBetween leaf p.at.offset (stop_in leaf p)

-- the edges that are there among some events, in order
abbrev pub edges_among : List BoxProps → List Event → List SolidKind
edges_among boxes [] = []
edges_among boxes (Opens b ∷ es) =
    if is_solid boxes (Opens b) then OpenEdge b ∷ edges_among boxes es else edges_among boxes es
edges_among boxes (Closes b ∷ es) =
    if is_solid boxes (Closes b) then CloseEdge b ∷ edges_among boxes es else edges_among boxes es
edges_among boxes (Leaf l ∷ es) = edges_among boxes es

-- the edge that a solid is, if it is one
abbrev pub edge_by : SolidKind → List SolidKind
edge_by (OpenEdge b) = OpenEdge b ∷ []
edge_by (CloseEdge b) = CloseEdge b ∷ []
edge_by Line = []

-- the edges on the pages are those of the tree
abbrev pub HoldsEdges : Tree → List Placed → Type 0
HoldsEdges t solids = flat_map (λ p. edge_by p.kind) solids ≡ edges_among t.boxes t.events

-- the text of a leaf, the empty one where none is
abbrev pub text_of : Option LeafData → List ℕ
text_of None = []
text_of (Some leaf) = leaf.text

-- the text of the leaf that an event is
abbrev pub text_by : List LeafData → Option Event → List ℕ
text_by leaves None = []
text_by leaves (Some (Opens b)) = []
text_by leaves (Some (Closes b)) = []
text_by leaves (Some (Leaf l)) = text_of (slice_get leaves l)

-- the text of the leaf at an event
abbrev pub text_at : Tree → ℕ → List ℕ
text_at t event = text_by t.leaves (slice_get t.events event)

-- the text on a line, which ends inside its leaf or with it
abbrev pub text_on : Tree → Placed → List ℕ
text_on t p = slice_range (text_at t p.at.event) p.at.offset (if p.end.event == p.at.event then p.end.offset else
    length (text_at t p.at.event))

-- the texts on the lines, joined, are the texts of the leaves, joined
abbrev pub HoldsText : Tree → List Placed → Type 0
HoldsText t lines = flat_map (text_on t) lines ≡ flat_map (λ l. l.text) t.leaves

-- no seam inside a page is forced
abbrev pub IsUnbroken : Tree → Page → Type 0
IsUnbroken t p = (k : ℕ) (s : Placed) → slice_get p.solids (suc k) ≡ Some s →
    (seam_of t s.at p.frame.width).forced ≡ None

-- a page whose first solid stands behind a forced seam, or at a start that asks a side, meets the demand
abbrev pub IsMet : Tree → PageFrames → Page → Type 0
IsMet t frames p = (s : Placed) → slice_get p.solids 0 ≡ Some s →
    meets_at frames p.index (seam_of t s.at p.frame.width).forced ≡ true

-- each forced seam stands between two pages, and the page after it meets the demand
abbrev pub HoldsBreaks : Tree → PageFrames → List Page → Type 0
HoldsBreaks t frames pages = All (λ p. IsUnbroken t p × IsMet t frames p) pages
