-- What is known of the places of nodes among the siblings of their types.
use Rattle.std.specs.Prelude.{◌≡◌, ℕ, List, Some, slice_get}
use Rattle.dom.specs.Nodes.{Node}
use Rattle.selectors.specs.Fits.{is_first_of_type, is_last_of_type}
use Rattle.selectors.specs.declared.document.TypePlace.{TypePlace}

-- both answers are right for a node
pub record IsTypePlace (nodes : List Node) (n : ℕ) (place : TypePlace) : Type 0 where
  pub first : place.first ≡ is_first_of_type nodes n
  pub last : place.last ≡ is_last_of_type nodes n

-- the places of the first nodes, as far as they are known
abbrev pub AreTypePlaces : List Node → List TypePlace → Type 0
AreTypePlaces nodes places = (n : ℕ) (place : TypePlace) → slice_get places n ≡ Some place → IsTypePlace nodes n place
