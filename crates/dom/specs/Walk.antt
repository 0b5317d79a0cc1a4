-- The steps of a walk through a tree: preorder, depth first (DOM, 4.2 "tree order"), each node entered, and left after
-- its descendants.
use Rattle.std.specs.Prelude.{ℕ, zero, suc, ◌+◌, List, [], ◌∷◌, ◌++◌, Option, length, if◌then◌else◌}
use Rattle.std.specs.List.{flat_map}
use Rattle.dom.specs.Nodes.{Node, is_at, parents_of}
use Rattle.dom.specs.declared.walk.Step.{Step}
use Rattle.dom.specs.declared.walk.Step.TheVariants.{Enter, Leave}

-- the nodes, numbered from k on, whose parent is p
abbrev pub children_from : ℕ → List (Option ℕ) → ℕ → List ℕ
children_from p [] k = []
children_from p (q ∷ qs) k = if is_at p q then k ∷ children_from p qs (k + 1) else children_from p qs (k + 1)

-- a node's children, first to last
abbrev pub children_of : List (Option ℕ) → ℕ → List ℕ
children_of ps n = children_from n ps 0

-- a node's tour: the node is entered, its children's tours follow in order, and it is left; d bounds how far down
unfoldable pub tour : List (Option ℕ) → ℕ → ℕ → List Step
tour ps zero n = []
tour ps (suc d) n = Enter (record { 0 = n }) ∷ flat_map (tour ps d) (children_of ps n) ++ Leave (record { 0 = n }) ∷ []

-- the steps of a whole tree: the root's tour. No way down has more nodes than the tree
abbrev pub steps_of : List Node → List Step
steps_of nodes = tour (parents_of nodes) (length nodes) 0

-- the node that a step enters or leaves
abbrev pub node_of : Step → ℕ
node_of (Enter n) = n.0
node_of (Leave n) = n.0

-- a walk: the tree that it goes through, and the steps that are left
pub record WalkView : Type 0 where
  pub nodes : List Node
  pub steps : List Step
