-- What a walk has left, from its next step on.
use Rattle.std.specs.Prelude.{ℕ, zero, suc, ◌+◌, ◌-◌, ◌<◌, List, [], ◌∷◌, ◌++◌, Option, None, Some, IfSome, drop, length}
use Rattle.std.specs.List.{flat_map}
use Rattle.dom.specs.Nodes.{parents_of, parent_at, IsTree}
use Rattle.dom.specs.Walk.{children_from, tour, node_of, WalkView}
use Rattle.dom.specs.declared.walk.Step.{Step}
use Rattle.dom.specs.declared.walk.Step.TheVariants.{Enter, Leave}
use Rattle.dom.specs.declared.walk.Walk.TheInside.{Inside}

-- a node's whole tour
abbrev pub tour_at : List (Option ℕ) → ℕ → List Step
tour_at ps n = tour ps (length ps - n) n

-- the tours of several nodes, one after another
abbrev pub tours_of : List (Option ℕ) → List ℕ → List Step
tours_of ps ns = flat_map (tour_at ps) ns

-- what comes after a node is left: the tours of its later siblings, then its parent is left; d bounds how far up
unfoldable pub after : List (Option ℕ) → ℕ → ℕ → Option ℕ → List Step
after ps zero n p = []
after ps (suc d) n None = []
after ps (suc d) n (Some p) =
    tours_of ps (children_from p (drop (n + 1) ps) (n + 1)) ++ Leave (record { 0 = p }) ∷ after ps d p (parent_at ps p)

-- what comes after the node of this number is left
abbrev pub after_at : List (Option ℕ) → ℕ → List Step
after_at ps n = after ps (n + 1) n (parent_at ps n)

-- the steps from the next one on
abbrev pub steps_from : List (Option ℕ) → Option Step → List Step
steps_from ps None = []
steps_from ps (Some (Enter n)) = tour_at ps n.0 ++ after_at ps n.0
steps_from ps (Some (Leave n)) = Leave n ∷ after_at ps n.0

-- a walk as contracts see it: the nodes, and the steps that are left
abbrev pub walk_of : Inside → WalkView
walk_of w = record { nodes = w.dom.now; steps = steps_from (parents_of w.dom.now) w.next }

-- a walk stands at a node of a sound tree, or at its end
pub record IsSoundWalk (w : Inside) : Type 0 where
  pub tree : IsTree w.dom.now
  pub within : IfSome w.next (λ s. node_of s < length w.dom.now)
