-- Which elements are shown, and where they begin.
use Rattle.std.specs.Prelude.{◌≡◌, ◌≤◌, ℕ, ◌+◌, ◌==◌, List, [], ◌∷◌, ◌++◌, map, if◌then◌else◌}
use Rattle.dom.specs.Nodes.{IsTree}
use Rattle.box_gen.specs.Flow.{flow_of}
use Rattle.box_gen.specs.Trees.{Source, Forest, none, node, forest_of, Role, text, hidden, inline, block, note, role_of}

-- a node, where it is a shown element, and the shown elements below it
abbrev pub node_shown : ℕ → Role → List ℕ → List ℕ
node_shown n hidden inside = []
node_shown n (text t) inside = []
node_shown n (inline u) inside = n ∷ inside
node_shown n (block u) inside = n ∷ inside
node_shown n (note u) inside = n ∷ inside

-- the shown elements among nodes, in tree order
unfoldable pub shown_in : Source → Forest → List ℕ
shown_in src none = []
shown_in src (node n kids more) = node_shown n (role_of src n) (shown_in src kids) ++ shown_in src more

-- the shown elements of a document, in tree order
abbrev pub shown_of : Source → List ℕ
shown_of src = shown_in src (forest_of src.nodes)

-- how often a number stands in a list
abbrev pub times : ℕ → List ℕ → ℕ
times n [] = 0
times n (x ∷ xs) = (if x == n then 1 else 0) + times n xs

-- each shown element of a document has exactly one start, and what isn't one has none
pub record HaveStarts (src : Source) : Type 0 where
  pub each : (n : ℕ) → times n (map (λ a. a.node.0) (flow_of src).starts) ≡ times n (shown_of src)
  pub once : (n : ℕ) → times n (shown_of src) ≤ 1

-- law: each shown element of a document has exactly one start
abbrev pub ElementsHaveStarts : Type 0
ElementsHaveStarts = (src : Source) → IsTree src.nodes → HaveStarts src
