-- What an addition may answer.
use Rattle.std.specs.Prelude.{◌≡◌, ℕ, ◌<◌, ◌≤◌, nat_le, ◌&&◌, Bool, true, false, List, Result, Ok, Err, length}
use Rattle.bk_num.specs.Limits.{most_nodes, most_depth}
use Rattle.dom.specs.declared.dom.DomErr.{DomErr}
use Rattle.dom.specs.declared.dom.DomErr.TheVariants.{Nodes, Depth, NoMemory}
use Rattle.dom.specs.Nodes.{Node, depth_at}

-- whether an element (or a text) can't stand below a node of a depth
abbrev pub is_below_all : Bool → ℕ → Bool
is_below_all element depth = nat_le most_depth depth && element

-- room for one more node, which an element needs above depth 201
pub record HasRoom (nodes : List Node) (parent : ℕ) (element : Bool) : Type 0 where
  pub few : length nodes < most_nodes
  pub shallow : is_below_all element (depth_at nodes parent) ≡ false

-- each answer with its cause: too many nodes, then too deep
abbrev pub AddAnswers : {A : Type 0} → List Node → ℕ → Bool → Result A DomErr → Type 0
AddAnswers nodes parent element (Err Nodes) = most_nodes ≤ length nodes
AddAnswers nodes parent element (Err Depth) =
    (length nodes < most_nodes) × (is_below_all element (depth_at nodes parent) ≡ true)
AddAnswers nodes parent element (Err NoMemory) = HasRoom nodes parent element
AddAnswers nodes parent element (Ok a) = HasRoom nodes parent element
