-- The nodes of a text are a tree, and are numbered in tree order.
use Rattle.std.specs.Prelude.{◌≡◌, ℕ, ◌<◌, ◌≤◌, List, Some, Ok, length, nat_lt, slice_get}
use Rattle.dom.specs.Nodes.{Node, IsTree}
use Rattle.dom.specs.Order.{comes_after}
use Rattle.html_tree.specs.Tree.{tree_of}

-- a node with a number between those of a parent and of its child is at least as deep as the child, and so lies within
-- the parent
pub record AreInOrder (nodes : List Node) : Type 0 where
  pub between : (k j p : ℕ) (n m : Node) → slice_get nodes k ≡ Some n → n.parent ≡ Some p → p < j → j < k →
      slice_get nodes j ≡ Some m →
      n.depth ≤ m.depth

-- then tree order is the order of the numbers
abbrev pub TreeOrderIsNumberOrder : Type 0
TreeOrderIsNumberOrder =
    (nodes : List Node) (a b : ℕ) → IsTree nodes → AreInOrder nodes → a < length nodes → b < length nodes →
    comes_after nodes a b ≡ nat_lt b a

-- the nodes of a text are a tree (DOM, 4.2)
abbrev pub TextsAreTrees : Type 0
TextsAreTrees = (bytes : List ℕ) (nodes : List Node) → tree_of bytes ≡ Ok nodes → IsTree nodes

-- and their numbers are in order
abbrev pub TextsAreInOrder : Type 0
TextsAreInOrder = (bytes : List ℕ) (nodes : List Node) → tree_of bytes ≡ Ok nodes → AreInOrder nodes
