-- What a document keeps, and what is seen of it.
use Rattle.std.specs.Prelude.{◌≡◌, ℕ, List, [], ◌∷◌, Option, Some, length, slice_get}
use Rattle.dom.specs.Nodes.{Node, NodeData, parents_of, element_parents_of, first_child_of, last_child_of, next_under, prev_under, elements_under, element_count, IsTree}
use Rattle.dom.specs.Order.{IsFirstOf}
use Rattle.dom.specs.Ids.{first_in}
use Rattle.dom.specs.declared.rows.Row.{Row}
use Rattle.dom.specs.declared.dom.Dom.TheInside.{Inside}

-- a node: where its row has it, and what it is
abbrev pub node_of : Row → NodeData → Node
node_of r what = record { parent = r.parent; depth = r.depth; what = what }

-- the nodes: where each stands, with what it is
abbrev pub joined : List Row → List NodeData → List Node
joined [] whats = []
joined (r ∷ rows) [] = []
joined (r ∷ rows) (what ∷ whats) = node_of r what ∷ joined rows whats

-- the nodes that contracts see
abbrev pub nodes_of : Inside → List Node
nodes_of a = joined a.rows.items a.store

-- a row's links and counts are those that the parents' numbers determine
pub record IsLinked (ps es : List (Option ℕ)) (k : ℕ) (r : Row) : Type 0 where
  pub first : r.first_child ≡ first_child_of ps k
  pub last : r.last_child ≡ last_child_of ps k
  pub next : r.next ≡ next_under ps k r.parent
  pub prev : r.prev ≡ prev_under ps k r.parent
  pub before : r.elements_before ≡ elements_under es k r.parent
  pub elements : r.elements ≡ element_count es k

-- rows and what they are: one row a node, each linked as the parents' numbers say
pub record AreSoundRows (rows : List Row) (whats : List NodeData) : Type 0 where
  pub count : length whats ≡ length rows
  pub tree : IsTree (joined rows whats)
  pub linked : (k : ℕ) (r : Row) → slice_get rows k ≡ Some r →
      IsLinked (parents_of (joined rows whats)) (element_parents_of (joined rows whats)) k r

-- a document: sound rows, and for each id the first element that has it
pub record IsSoundDom (a : Inside) : Type 0 where
  pub rows : AreSoundRows a.rows.items a.store
  pub firsts : (id : List ℕ) → IsFirstOf (nodes_of a) id (first_in a.ids id)
