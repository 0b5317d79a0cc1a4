-- A tree as a list of nodes with the numbers of their parents.
use Rattle.std.specs.Prelude.{◌≡◌, ℕ, ◌+◌, ◌<◌, ◌≤◌, Bool, false, true, List, [], ◌∷◌, ◌++◌, Option, None, Some, if◌then◌else◌, ◌==◌, take, drop, map, length, slice_get, slice_set, count_by, codes}
use Rattle.std.specs.Option.{option_or}
use Rattle.bk_num.specs.Limits.{most_nodes, most_depth}
use Rattle.dom.specs.Pairs.{pair_value}

-- an element with its name and its attributes, or a text
pub data NodeData : Type 0 where
  Element : List ℕ → List (List ℕ × List ℕ) → NodeData
  Text : List ℕ → NodeData

-- a node: its parent's number, its depth, and an element or a text
pub record Node : Type 0 where
  pub parent : Option ℕ
  pub depth : ℕ
  pub what : NodeData

-- whether a parent is this node
abbrev pub is_at : ℕ → Option ℕ → Bool
is_at p None = false
is_at p (Some q) = q == p

-- the first of the nodes, numbered from k on, whose parent is p
abbrev pub first_from : ℕ → List (Option ℕ) → ℕ → Option ℕ
first_from p [] k = None
first_from p (q ∷ qs) k = if is_at p q then Some k else first_from p qs (k + 1)

-- the last of the nodes, numbered from k on, whose parent is p
abbrev pub last_from : ℕ → List (Option ℕ) → ℕ → Option ℕ
last_from p [] k = None
last_from p (q ∷ qs) k = option_or (last_from p qs (k + 1)) (if is_at p q then Some k else None)

-- the numbers of the nodes' parents
abbrev pub parents_of : List Node → List (Option ℕ)
parents_of nodes = map (λ n. n.parent) nodes

-- a number that may be missing twice over
abbrev pub flat : Option (Option ℕ) → Option ℕ
flat None = None
flat (Some q) = q

-- a node's parent (DOM, 4.2 "tree")
abbrev pub parent_at : List (Option ℕ) → ℕ → Option ℕ
parent_at ps n = flat (slice_get ps n)

-- a node's first child (DOM, 4.2 "tree")
abbrev pub first_child_of : List (Option ℕ) → ℕ → Option ℕ
first_child_of ps n = first_from n ps 0

-- a node's last child (DOM, 4.2 "tree")
abbrev pub last_child_of : List (Option ℕ) → ℕ → Option ℕ
last_child_of ps n = last_from n ps 0

-- the first child of a parent behind node n
abbrev pub next_under : List (Option ℕ) → ℕ → Option ℕ → Option ℕ
next_under ps n None = None
next_under ps n (Some p) = first_from p (drop (n + 1) ps) (n + 1)

-- the last child of a parent before node n
abbrev pub prev_under : List (Option ℕ) → ℕ → Option ℕ → Option ℕ
prev_under ps n None = None
prev_under ps n (Some p) = last_from p (take n ps) 0

-- a node's next sibling (DOM, 4.2 "tree")
abbrev pub next_of : List (Option ℕ) → ℕ → Option ℕ
next_of ps n = next_under ps n (parent_at ps n)

-- a node's previous sibling (DOM, 4.2 "tree")
abbrev pub prev_of : List (Option ℕ) → ℕ → Option ℕ
prev_of ps n = prev_under ps n (parent_at ps n)

-- whether it is an element, not a text
abbrev pub is_element : NodeData → Bool
is_element (Element name attrs) = true
is_element (Text text) = false

-- a node's depth; none is at depth 0
abbrev pub depth_of : Option Node → ℕ
depth_of None = 0
depth_of (Some n) = n.depth

-- the depth of the node of this number
abbrev pub depth_at : List Node → ℕ → ℕ
depth_at nodes n = depth_of (slice_get nodes n)

-- whether a node is there and is an element
abbrev pub is_element_node : Option Node → Bool
is_element_node None = false
is_element_node (Some n) = is_element n.what

-- whether the node of this number is an element
abbrev pub is_element_at : List Node → ℕ → Bool
is_element_at nodes n = is_element_node (slice_get nodes n)

-- an element's parent
abbrev pub element_parent : Node → Option ℕ
element_parent n = if is_element n.what then n.parent else None

-- the parents of the elements, and None for each text
abbrev pub element_parents_of : List Node → List (Option ℕ)
element_parents_of nodes = map element_parent nodes

-- how many children of a node are elements
abbrev pub element_count : List (Option ℕ) → ℕ → ℕ
element_count es n = count_by (is_at n) es

-- how many elements among a node's siblings come before it
abbrev pub elements_under : List (Option ℕ) → ℕ → Option ℕ → ℕ
elements_under es n None = 0
elements_under es n (Some p) = count_by (is_at p) (take n es)

-- how many elements among a node's siblings come before it
abbrev pub elements_before_of : List Node → ℕ → ℕ
elements_before_of nodes n = elements_under (element_parents_of nodes) n (parent_at (parents_of nodes) n)

-- ---- what a node is

-- an element's name
abbrev pub name_in : NodeData → Option (List ℕ)
name_in (Element name attrs) = Some name
name_in (Text text) = None

-- a text's text
abbrev pub text_in : NodeData → Option (List ℕ)
text_in (Element name attrs) = None
text_in (Text text) = Some text

-- the value of an element's attribute of this name
abbrev pub attribute_in : List ℕ → NodeData → Option (List ℕ)
attribute_in key (Element name attrs) = pair_value attrs key
attribute_in key (Text text) = None

-- a part of what a node is
abbrev pub part_of : (NodeData → Option (List ℕ)) → Option Node → Option (List ℕ)
part_of part None = None
part_of part (Some n) = part n.what

-- the name of the element of this number
abbrev pub name_at : List Node → ℕ → Option (List ℕ)
name_at nodes n = part_of name_in (slice_get nodes n)

-- the text of the text of this number
abbrev pub text_at : List Node → ℕ → Option (List ℕ)
text_at nodes n = part_of text_in (slice_get nodes n)

-- the value of the attribute of this name of the element of this number
abbrev pub attribute_at : List Node → ℕ → List ℕ → Option (List ℕ)
attribute_at nodes n key = part_of (attribute_in key) (slice_get nodes n)

-- ---- how nodes are added

-- the first node, which is the element `html`
abbrev pub root : Node
root = record { parent = None; depth = 1; what = Element (codes "html") [] }

-- a new child of a node
abbrev pub child_of : List Node → ℕ → NodeData → Node
child_of nodes parent what = record { parent = Some parent; depth = depth_at nodes parent + 1; what = what }

-- an element with one more attribute
abbrev pub attributed : List ℕ → List ℕ → NodeData → NodeData
attributed key value (Element name attrs) = Element name (attrs ++ (key, value) ∷ [])
attributed key value (Text text) = Text text

-- a list, with one of its items changed
abbrev pub changed_at : {A : Type 0} → (A → A) → List A → ℕ → Option A → List A
changed_at f xs n None = xs
changed_at f xs n (Some a) = slice_set xs n (f a)

-- the nodes, with one more attribute at one of them
abbrev pub with_attribute : List Node → ℕ → List ℕ → List ℕ → List Node
with_attribute nodes n key value =
    changed_at (λ a. record a { what = attributed key value a.what }) nodes n (slice_get nodes n)

-- the depth of the deepest element that may stand there: a text counts one less
abbrev pub reach_of : ℕ → NodeData → ℕ
reach_of depth what = depth + (if is_element what then 1 else 0)

-- ---- what holds of each document

-- a node is the first one, or has an element before it as its parent and is one deeper
abbrev pub HasPlace : List Node → ℕ → Node → Option ℕ → Type 0
HasPlace nodes k n None = (k ≡ 0) × (n.depth ≡ 1) × (is_element n.what ≡ true)
HasPlace nodes k n (Some p) = (p < k) × (is_element_at nodes p ≡ true) × (n.depth ≡ depth_at nodes p + 1)

-- at most 400,000 nodes, elements at most 200 deep and texts at most 201, and each node in its place
pub record IsTree (nodes : List Node) : Type 0 where
  pub few : length nodes ≤ most_nodes
  pub some : 0 < length nodes
  pub deep : (k : ℕ) (n : Node) → slice_get nodes k ≡ Some n → reach_of n.depth n.what ≤ most_depth + 1
  pub placed : (k : ℕ) (n : Node) → slice_get nodes k ≡ Some n → HasPlace nodes k n n.parent
