-- The nodes beside a node, one after another.
use Rattle.std.specs.Prelude.{ℕ, zero, suc, Bool, false, not, ◌||◌, if◌then◌else◌, ◌==◌}
use Rattle.std.specs.Prelude.{List, [], ◌∷◌, Option, None, Some, length}
use Rattle.std.specs.Str.{bytes_eq}
use Rattle.dom.specs.Nodes.{Node, parents_of, first_child_of, next_of, prev_of, is_element_at, name_at, text_at}
use Rattle.selectors.specs.declared.walk.Way.{Way}
use Rattle.selectors.specs.declared.walk.Way.TheVariants as way
use Rattle.selectors.specs.declared.walk.Ask.{Ask}
use Rattle.selectors.specs.declared.walk.Ask.TheVariants as ask

-- the nodes that a step leads to, one after another; the number bounds the steps
abbrev pub chain : (ℕ → Option ℕ) → ℕ → Option ℕ → List ℕ
chain next zero o = []
chain next (suc f) None = []
chain next (suc f) (Some m) = m ∷ chain next f (next m)

-- the first of a list that passes a test
abbrev pub first_such : (ℕ → Bool) → List ℕ → Option ℕ
first_such f [] = None
first_such f (x ∷ xs) = if f x then Some x else first_such f xs

-- the sibling just before or just after a node
abbrev pub beside : List Node → Way → ℕ → Option ℕ
beside nodes way.Before n = prev_of (parents_of nodes) n
beside nodes way.After n = next_of (parents_of nodes) n

-- the siblings before a node, nearest first, those after it, and its children; each step leads to a lesser or a greater
-- number
unfoldable pub siblings_before : List Node → ℕ → List ℕ
siblings_before nodes n = chain (beside nodes way.Before) n (beside nodes way.Before n)

-- the siblings after a node, in their order
unfoldable pub siblings_after : List Node → ℕ → List ℕ
siblings_after nodes n = chain (beside nodes way.After) (length nodes) (beside nodes way.After n)

-- the children of a node, in their order
unfoldable pub children : List Node → ℕ → List ℕ
children nodes n = chain (beside nodes way.After) (length nodes) (first_child_of (parents_of nodes) n)

-- a text of at least one character
abbrev pub has_text : List ℕ → Bool
has_text v = not (length v == 0)

-- two names that are there and the same
abbrev pub name_is : Option (List ℕ) → Option (List ℕ) → Bool
name_is None o = false
name_is (Some a) None = false
name_is (Some a) (Some b) = bytes_eq a b

-- two elements of one type
abbrev pub same_type : List Node → ℕ → ℕ → Bool
same_type nodes n m = name_is (name_at nodes m) (name_at nodes n)

-- the node is an element, or a text of at least one character
abbrev pub is_some_text : Option (List ℕ) → Bool
is_some_text None = false
is_some_text (Some t) = has_text t

-- an element, or a text of at least one character
abbrev pub is_content : List Node → ℕ → Bool
is_content nodes m = is_element_at nodes m || is_some_text (text_at nodes m)

-- what is asked of a sibling of a node
abbrev pub asks : List Node → Ask → ℕ → ℕ → Bool
asks nodes ask.Element n m = is_element_at nodes m
asks nodes ask.SameType n m = same_type nodes n m
asks nodes ask.Content n m = is_content nodes m

-- the first node along a way, from a first one, of which the answer is yes; the number bounds the steps
abbrev pub first_asked : List Node → Ask → ℕ → Way → ℕ → Option ℕ → Option ℕ
first_asked nodes ask n way steps first = first_such (asks nodes ask n) (chain (beside nodes way) steps first)

-- the element sibling just before a node
unfoldable pub prev_element : List Node → ℕ → Option ℕ
prev_element nodes n = first_such (is_element_at nodes) (siblings_before nodes n)

-- the siblings of a node along a way, nearest first
abbrev pub siblings : List Node → Way → ℕ → List ℕ
siblings nodes way.Before n = siblings_before nodes n
siblings nodes way.After n = siblings_after nodes n
