-- The nodes of a document as a tree, and what boxes they make (DOM, 4.2; CSS 2.1, 9.2).
use Rattle.std.specs.Prelude.{ℕ, ℤ, zero, suc, ◌-◌, ◌==◌, Bool, true, false, not, ◌&&◌, ◌||◌, List, [], ◌∷◌, Option, None, Some, length, slice_get, if◌then◌else◌}
use Rattle.bk_num.specs.declared.ids.FaceId.{FaceId}
use Rattle.bk_num.specs.declared.values.Pseudo.{Pseudo}
use Rattle.dom.specs.Nodes.{Node, parents_of, text_at}
use Rattle.dom.specs.Walk.{children_of}
use Rattle.soft_hyphens.specs.Words.{Points}
use Rattle.style.specs.declared.style.Style.{Style}
use Rattle.style.specs.declared.values.Display.{Display}
use Rattle.style.specs.declared.values.Display.TheVariants as display
use Rattle.style.specs.Nodes.{NodeStyles}

-- nodes that stand side by side, with all below them: the first one, what is below it, and those after it
pub data Forest : Type 0 where
  none : Forest
  node : ℕ → Forest → Forest → Forest

-- nodes that stand side by side, each with what is below it
abbrev pub side_by_side : (ℕ → Forest) → List ℕ → Forest
side_by_side below [] = none
side_by_side below (n ∷ ns) = node n (below n) (side_by_side below ns)

-- what is below a node; d bounds how far down
abbrev pub below : List (Option ℕ) → ℕ → ℕ → Forest
below ps zero n = none
below ps (suc d) n = side_by_side (below ps d) (children_of ps n)

-- the tree of a document. No way down has more nodes than the document
abbrev pub forest_of : List Node → Forest
forest_of nodes = node 0 (below (parents_of nodes) (length nodes - 1) 0) none

-- what a flow is made from: nodes with their styles, the values of the counter of list items at each element (the
-- outermost scope first), the face of each style, what each pseudo-element's content prints, which elements float to
-- the notes, whether edges may stand again where a page parts a box, the running strings that each element assigns, and
-- where words may be hyphenated, if patterns are given
pub record Source : Type 0 where
  pub nodes : List Node
  pub styles : List NodeStyles
  pub items : ℕ → List ℤ
  pub face : Style → FaceId
  pub generated : ℕ → Pseudo → List ℕ
  pub is_note : ℕ → Bool
  pub clones : Bool
  pub assigned : ℕ → List (List ℕ × List ℕ)
  pub points : Option Points

-- whether `display` is of block level (CSS 2.1, 9.2.1)
abbrev pub is_block_level : Display → Bool
is_block_level display.Inline = false
is_block_level display.Block = true
is_block_level display.ListItem = true
is_block_level display.Hidden = false

-- whether a shown element is a block: the root always is, and one that floats to the notes never (CSS 2.1, 9.2.1 and
-- 9.7)
abbrev pub is_block : Bool → Style → Bool
is_block root s = root || (not s.float && is_block_level s.display)

-- whether an element is one that floats to the notes (css-gcpm-3, 2.1). The root never does
abbrev pub is_note_element : Source → ℕ → Bool
is_note_element src n = not (n == 0) && src.is_note n

-- what is in a note: an element there that floats to the notes is none, but an inline element, and no edge stands again
abbrev pub in_note : Source → Source
in_note src = record src { is_note = λ n. false; clones = false }

-- what a node is to the flow: a text, an element that isn't shown, an inline element, a block or a note
pub data Role : Type 0 where
  text : List ℕ → Role
  hidden : Role
  inline : Style → Role
  block : Style → Role
  note : Style → Role

-- the role of a shown element of a style
abbrev pub shown_role : Bool → Bool → Option Style → Role
shown_role float root None = hidden
shown_role float root (Some s) = if float then note s else (if is_block root s then block s else inline s)

-- the role of an element
abbrev pub element_role : Bool → Bool → Option NodeStyles → Role
element_role float root None = hidden
element_role float root (Some r) = if r.shown then shown_role float root r.own else hidden

-- the role of a text or an element
abbrev pub role_by : Bool → Bool → Option NodeStyles → Option (List ℕ) → Role
role_by float root r None = element_role float root r
role_by float root r (Some t) = text t

-- what a node is to the flow
abbrev pub role_of : Source → ℕ → Role
role_of src n = role_by (is_note_element src n) (n == 0) (slice_get src.styles n) (text_at src.nodes n)
