-- Page references: `target-counter()` with the counter `page` (css-gcpm-3).
use Rattle.std.specs.Prelude.{◌≡◌, ◌↔◌, ◌⊎◌, ℕ, ◌<◌, Bool, true, false, if◌then◌else◌, List, [], ◌∷◌, ◌++◌, Option, None, Some, length, map, get_or, Contains}
use Rattle.std.specs.List.{flat_map}
use Rattle.std.specs.List.Sorted.{IsStrictlyIncreasing}
use Rattle.bk_num.specs.declared.ids.NodeId.{NodeId}
use Rattle.bk_num.specs.declared.values.Pseudo.TheVariants as pseudo
use Rattle.dom.specs.Nodes.{Node}
use Rattle.style.specs.declared.content.Link.{Link}
use Rattle.style.specs.Counters.{is_page_counter}
use Rattle.style.specs.declared.content.Part.{Part}
use Rattle.style.specs.declared.content.Part.TheVariants as part
use Rattle.style.specs.declared.style.Style.{Style}
use Rattle.style.specs.Nodes.{NodeStyles, style_at}
use Rattle.gen_text.specs.Target.{IsTarget}

-- the link of a page reference
abbrev pub links_by : Part → List Link
links_by (part.Target link name style) = if is_page_counter name then link ∷ [] else []
links_by (part.Text t) = []
links_by (part.Attr name) = []
links_by (part.Counter name style) = []
links_by (part.Counters name between style) = []
links_by part.Own = []
links_by (part.Running name keyword) = []
links_by (part.Page style) = []
links_by (part.Pages style) = []

-- the links of page references in a list of content, where there is one
abbrev pub links_in_some : Option (List Part) → List Link
links_in_some None = []
links_in_some (Some content) = flat_map links_by content

-- the links of page references in a style's `content`
abbrev pub links_of : Option Style → List Link
links_of None = []
links_of (Some s) = links_in_some s.content

-- the links of page references in the content of a node's pseudo-elements, as many as there are
abbrev pub page_links : List NodeStyles → ℕ → List Link
page_links styles n =
    links_of (style_at styles n pseudo.Before) ++
    (links_of (style_at styles n pseudo.After) ++
    (links_of (style_at styles n pseudo.Call) ++ links_of (style_at styles n pseudo.Marker)))

-- one of these links at a node leads to t
abbrev pub LeadTo : List Node → List NodeStyles → ℕ → List Link → ℕ → Type 0
LeadTo nodes styles n links t = (l : Link) × Contains links l × IsTarget nodes styles n l (Some t)

-- a page reference of one of the first i nodes leads to t
abbrev pub IsNamedBelow : List Node → List NodeStyles → ℕ → ℕ → Type 0
IsNamedBelow nodes styles i t = (n : ℕ) × (n < i) × LeadTo nodes styles n (page_links styles n) t

-- a page reference of the document leads to t
abbrev pub IsNamed : List Node → List NodeStyles → ℕ → Type 0
IsNamed nodes styles t = IsNamedBelow nodes styles (length nodes) t

-- the elements that page references lead to, ascending, each once
pub record AreTargets (nodes : List Node) (styles : List NodeStyles) (list : List NodeId) : Type 0 where
  pub rises : IsStrictlyIncreasing (map (λ n. n.0) list)
  pub named : (t : ℕ) → Contains (map (λ n. n.0) list) t ↔ IsNamed nodes styles t

-- ---- marks of nodes

-- a node is marked
abbrev pub IsMarked : List Bool → ℕ → Type 0
IsMarked marks t = get_or marks t false ≡ true

-- the marked nodes are those before, and what these links at a node lead to
abbrev pub Marks : List Node → List NodeStyles → ℕ → List Link → List Bool → List Bool → Type 0
Marks nodes styles n links old new = (t : ℕ) → IsMarked new t ↔ (IsMarked old t ⊎ LeadTo nodes styles n links t)

-- what page references of the first i nodes lead to is marked
abbrev pub MarkedBelow : List Node → List NodeStyles → ℕ → List Bool → Type 0
MarkedBelow nodes styles i marks = (t : ℕ) → IsMarked marks t ↔ IsNamedBelow nodes styles i t

-- the marked nodes, ascending, each once
pub record AreMarked (marks : List Bool) (list : List NodeId) : Type 0 where
  pub rises : IsStrictlyIncreasing (map (λ n. n.0) list)
  pub marked : (t : ℕ) → Contains (map (λ n. n.0) list) t ↔ IsMarked marks t

-- ---- law

-- a document has one such list
abbrev pub TargetsAreOne : Type 0
TargetsAreOne = (nodes : List Node) (styles : List NodeStyles) (a b : List NodeId) → AreTargets nodes styles a →
    AreTargets nodes styles b → a ≡ b
