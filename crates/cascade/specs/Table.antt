-- What wins for nodes, one after another.
use Rattle.std.specs.Prelude.{◌≡◌, ℕ, List, [], ◌∷◌, ◌++◌, Some, slice_get}
use Rattle.cascade.specs.declared.table.NodeWinners.{NodeWinners}

-- what wins for each node, and for each the first of the nodes that were added like one another
pub record WinnersOf : Type 0 where
  pub winners : List NodeWinners
  pub firsts : List ℕ

-- no nodes
abbrev pub no_winners : WinnersOf
no_winners = record { winners = []; firsts = [] }

-- with a node more, and the first of its like
abbrev pub with_node : WinnersOf → NodeWinners → ℕ → WinnersOf
with_node t w first = record { winners = t.winners ++ w ∷ []; firsts = t.firsts ++ first ∷ [] }

-- a node is added for which the same wins as for an earlier one, and whose like have the same first
pub record AddsLike (t : WinnersOf) (n : ℕ) (more : WinnersOf) : Type 0 where
  pub wins : NodeWinners
  pub there : slice_get t.winners n ≡ Some wins
  pub first : ℕ
  pub first_there : slice_get t.firsts n ≡ Some first
  pub added : more ≡ with_node t wins first
