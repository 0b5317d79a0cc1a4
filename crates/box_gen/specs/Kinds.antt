-- What nodes are to the flow, as the code has it.
use Rattle.std.specs.Prelude.{◌≡◌, ℕ, List, Option, None, Some, slice_get, if◌then◌else◌}
use Rattle.metrics.specs.Face.{FontFace}
use Rattle.style.specs.declared.style.Style.{Style}
use Rattle.style.specs.Nodes.{NodeStyles}
use Rattle.box_gen.specs.declared.input.FlowInput.{FlowInput}
use Rattle.box_gen.specs.declared.input.NodeKind.{NodeKind}
use Rattle.box_gen.specs.declared.input.NodeKind.TheVariants as kind
use Rattle.box_gen.specs.Sources.{IsInRange, source_in}
use Rattle.box_gen.specs.Trees.{Role, text, hidden, inline, block, note, role_of}

-- what a node is to the flow, as the definitions have it
abbrev pub role_in : NodeKind → Role
role_in (kind.Text t) = text t.now
role_in kind.Hidden = hidden
role_in (kind.Inline s) = inline s.now.style
role_in (kind.Block s) = block s.now.style
role_in (kind.Note s) = note s.now.style

-- the style of an element, where it is shown
abbrev pub shown_by : Option NodeStyles → Option Style
shown_by None = None
shown_by (Some r) = if r.shown then r.own else None

-- the style of an element that is shown
abbrev pub shown_in : List NodeStyles → ℕ → Option Style
shown_in styles n = shown_by (slice_get styles n)

-- the style of an element that is shown is in range
abbrev pub HasRange : NodeKind → Type 0
HasRange (kind.Text t) = Unit {0}
HasRange kind.Hidden = Unit {0}
HasRange (kind.Inline s) = IsInRange s.now.style
HasRange (kind.Block s) = IsInRange s.now.style
HasRange (kind.Note s) = IsInRange s.now.style

-- the style of an element that is shown chooses among some faces
abbrev pub IsSetIn : List FontFace → NodeKind → Type 0
IsSetIn faces (kind.Text t) = Unit {0}
IsSetIn faces kind.Hidden = Unit {0}
IsSetIn faces (kind.Inline s) = s.now.faces ≡ faces
IsSetIn faces (kind.Block s) = s.now.faces ≡ faces
IsSetIn faces (kind.Note s) = s.now.faces ≡ faces

-- the style of an element that is shown is in range, and chooses among the faces of the input
pub record IsFacedKind (input : FlowInput) (k : NodeKind) : Type 0 where
  pub faces : IsSetIn input.faces.now k
  pub range : HasRange k

-- what a node is to the flow, set in its faces and in range
pub record IsKindOf (input : FlowInput) (n : ℕ) (k : NodeKind) : Type 0 where
  pub role : role_in k ≡ role_of (source_in input) n
  pub faced : IsFacedKind input k
