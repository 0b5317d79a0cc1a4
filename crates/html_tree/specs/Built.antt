-- What the builder of a tree answers, and what it keeps of the state.
use Rattle.std.specs.Prelude.{◌≡◌, ℕ, ◌<◌, ◌-◌, true, List, [], ◌∷◌, ◌++◌, Some, Result, Ok, Err, length, slice_get}
use Rattle.std.specs.Cow.{cow_str_bytes}
use Rattle.bk_num.specs.declared.ids.NodeId.{NodeId}
use Rattle.bk_num.specs.Limits.{most_nodes}
use Rattle.dom.specs.Nodes.{Node, Text, child_of, is_element_at}
use Rattle.dom.specs.declared.dom.DomErr.{DomErr}
use Rattle.dom.specs.declared.dom.DomErr.TheVariants.{Nodes, Depth, NoMemory}
use Rattle.html_tree.specs.declared.tree.Builder.{Builder}
use Rattle.html_tree.specs.Tree.{State}
use Rattle.html_tree.specs.Scopes.{HaveScopes}

-- what is expected comes, but for want of memory
abbrev pub Answers : {A B : Type 0} → Result A DomErr → Result B DomErr → (B → A) → Type 0
Answers expected (Ok b) made = expected ≡ Ok (made b)
Answers expected (Err Nodes) made = expected ≡ Err Nodes
Answers expected (Err Depth) made = expected ≡ Err Depth
Answers expected (Err NoMemory) made = Unit {0}

-- a text that waits is a node to come
abbrev pub waiting : List Node → ℕ → List ℕ → List Node
waiting nodes parent [] = []
waiting nodes parent (b ∷ bs) = child_of nodes parent (Text (b ∷ bs)) ∷ []

-- the state that a builder keeps: its nodes with the text that waits, and its open elements
abbrev pub state_of : Builder → State
state_of b = record { nodes = b.dom ++ waiting b.dom b.parent.0 (cow_str_bytes b.text); opened = b.opened.items }

-- each open node is an element that is there
abbrev pub AreElements : List Node → List NodeId → Type 0
AreElements nodes opened = (k : ℕ) (o : NodeId) → slice_get opened k ≡ Some o → is_element_at nodes o.0 ≡ true

-- a builder: its open nodes are elements, it knows what they have in scope, and a text that waits finds room
pub record IsBuilt (b : Builder) : Type 0 where
  pub root : is_element_at b.dom 0 ≡ true
  pub opened : AreElements b.dom b.opened.items
  pub scopes : HaveScopes b.dom b.opened.items b.scopes.items
  pub parent : is_element_at b.dom b.parent.0 ≡ true
  pub few : 0 < length (cow_str_bytes b.text) → length b.dom < most_nodes
  pub last : length (cow_str_bytes b.text) ≡ 0 → is_element_at b.dom (length b.dom - 1) ≡ true
