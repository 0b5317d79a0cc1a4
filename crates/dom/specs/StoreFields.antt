-- What a store keeps, and what is seen of it.
use Rattle.std.specs.Prelude.{◌≡◌, ℕ, ◌+◌, ◌<◌, List, [], ◌∷◌, Some, if◌then◌else◌, ◌==◌, length, slice_get, unwrap_or}
use Rattle.dom.specs.Nodes.{NodeData, Element, Text}
use Rattle.dom.specs.Spans.{between, Fits}
use Rattle.dom.specs.declared.texts.Span.{Span}
use Rattle.dom.specs.declared.store.Item.{Item}
use Rattle.dom.specs.declared.store.Item.TheVariants as item
use Rattle.dom.specs.declared.store.Key.{Key}
use Rattle.dom.specs.declared.store.New.{New}
use Rattle.dom.specs.declared.store.New.TheVariants as new
use Rattle.dom.specs.declared.store.Store.TheInside.{Inside}

-- what is added
abbrev pub made_of : New → NodeData
made_of (new.Element name) = Element name.now []
made_of (new.Text text) = Text text.now

-- the name of a number
abbrev pub name_of : List (List ℕ) → ℕ → List ℕ
name_of names k = unwrap_or (slice_get names k) []

-- an attribute's name and value
abbrev pub pair_of : List (List ℕ) → List ℕ → Key × Span → List ℕ × List ℕ
pair_of names texts e = (name_of names e.0.name, between texts e.1)

-- the attributes of a node among those of all nodes
abbrev pub attributes_of : List (List ℕ) → List ℕ → ℕ → List (Key × Span) → List (List ℕ × List ℕ)
attributes_of names texts n [] = []
attributes_of names texts n (e ∷ es) =
    if e.0.node == n then pair_of names texts e ∷ attributes_of names texts n es else attributes_of names texts n es

-- what the node of an item is
abbrev pub node_of : List (List ℕ) → List ℕ → List (Key × Span) → ℕ → Item → NodeData
node_of names texts es n (item.Element k) = Element (name_of names k) (attributes_of names texts n es)
node_of names texts es n (item.Text s) = Text (between texts s)

-- the nodes of items, numbered from k on
abbrev pub nodes_from : List (List ℕ) → List ℕ → List (Key × Span) → ℕ → List Item → List NodeData
nodes_from names texts es k [] = []
nodes_from names texts es k (i ∷ is) = node_of names texts es k i ∷ nodes_from names texts es (k + 1) is

-- what the nodes are, as contracts see them
abbrev pub nodes_of : Inside → List NodeData
nodes_of a = nodes_from a.names a.texts a.attributes.entries 0 a.items.items

-- an element's name is among the names, a text's place within the texts
abbrev pub ItemFits : List (List ℕ) → List ℕ → Item → Type 0
ItemFits names texts (item.Element k) = k < length names
ItemFits names texts (item.Text s) = Fits texts s

-- an attribute's element is a node, its name among the names, and its value's place within the texts
pub record EntryFits (names : List (List ℕ)) (texts : List ℕ) (count : ℕ) (e : Key × Span) : Type 0 where
  pub node : e.0.node < count
  pub name : e.0.name < length names
  pub value : Fits texts e.1

-- each item and each attribute fits the names and the texts
pub record AreSoundItems (names : List (List ℕ)) (texts : List ℕ) (es : List (Key × Span))
    (is : List Item) : Type 0 where
  pub items : (k : ℕ) (i : Item) → slice_get is k ≡ Some i → ItemFits names texts i
  pub entries : (k : ℕ) (e : Key × Span) → slice_get es k ≡ Some e → EntryFits names texts (length is) e

-- a store: its items and attributes fit its names and texts
abbrev pub IsSoundStore : Inside → Type 0
IsSoundStore a = AreSoundItems a.names a.texts a.attributes.entries a.items.items
