-- The row of a node, a new row, and the rows after a child was added.
use Rattle.std.specs.Prelude.{◌≡◌, ℕ, ◌+◌, List, Option, None, Some, slice_get}
use Rattle.dom.specs.Nodes.{Node, parents_of, element_parents_of, parent_at, depth_at, first_child_of, last_child_of, next_of, prev_of, elements_before_of, element_count, changed_at}
use Rattle.dom.specs.declared.rows.Row.{Row}

-- a node's row has its parent, its depth, its links and its counts
pub record IsRowOf (nodes : List Node) (k : ℕ) (r : Row) : Type 0 where
  pub parent : r.parent ≡ parent_at (parents_of nodes) k
  pub depth : r.depth ≡ depth_at nodes k
  pub first : r.first_child ≡ first_child_of (parents_of nodes) k
  pub last : r.last_child ≡ last_child_of (parents_of nodes) k
  pub next : r.next ≡ next_of (parents_of nodes) k
  pub prev : r.prev ≡ prev_of (parents_of nodes) k
  pub before : r.elements_before ≡ elements_before_of nodes k
  pub elements : r.elements ≡ element_count (element_parents_of nodes) k

-- where node 0 stands
abbrev pub root_row : Row
root_row = record {
  parent = None;
  first_child = None;
  last_child = None;
  next = None;
  prev = None;
  elements_before = 0;
  elements = 0;
  depth = 1;
}

-- where a new last child stands, whose parent has so many element children before it
abbrev pub child_row : ℕ → ℕ → Option ℕ → ℕ → Row
child_row parent depth last before = record {
  parent = Some parent;
  first_child = None;
  last_child = None;
  next = None;
  prev = last;
  elements_before = before;
  elements = 0;
  depth = depth + 1;
}

-- the row at a place, changed
abbrev pub change : (Row → Row) → List Row → ℕ → List Row
change f rows k = changed_at f rows k (slice_get rows k)

-- the rows after a new child: its parent's first child, or the next sibling of the last one
abbrev pub linked_before : List Row → ℕ → Option ℕ → ℕ → List Row
linked_before rows parent None index = change (λ r. record r { first_child = Some index }) rows parent
linked_before rows parent (Some l) index = change (λ r. record r { next = Some index }) rows l

-- the rows after a new child, which is its parent's last one, where the parent has so many element children
abbrev pub linked_at : List Row → ℕ → Option ℕ → ℕ → ℕ → List Row
linked_at rows parent last index elements = change (λ r. record r { last_child = Some index; elements = elements })
    (linked_before rows parent last index) parent
