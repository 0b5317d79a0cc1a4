-- The types that the children of a node have, while each node's place among the siblings of its type is found.
use Rattle.std.specs.Prelude.{◌≡◌, ℕ, Bool, true, false, not, ◌&&◌, ◌||◌, ◌==◌, if◌then◌else◌, List, [], ◌∷◌, ◌++◌, Option, Some, None, slice_get}
use Rattle.std.specs.List.{list_any}
use Rattle.std.specs.Str.{bytes_eq}
use Rattle.dom.specs.Nodes.{name_at}
use Rattle.selectors.specs.Match.{Tree, parent_of}
use Rattle.selectors.specs.Fits.{is_first_of_type}
use Rattle.selectors.specs.Selectors.{SelectorView}
use Rattle.selectors.specs.declared.document.TypePlace.{TypePlace}
use Rattle.selectors.specs.declared.types.Test.{Test}
use Rattle.selectors.specs.declared.types.Test.TheVariants as test
use Rattle.selectors.specs.declared.types.Plain.{Plain}
use Rattle.selectors.specs.declared.types.Compound.{Compound}

-- a parent and the type of a child
abbrev pub Kind : Type 0
Kind = ℕ × List ℕ

-- the same parent and type
abbrev pub is_kind : Kind → Kind → Bool
is_kind a b = a.0 == b.0 && bytes_eq a.1 b.1

-- a parent with a type was met
unfoldable pub has_kind : List Kind → Kind → Bool
has_kind kinds k = list_any (is_kind k) kinds

-- one more, if it is new
abbrev pub with_kind : List Kind → Kind → List Kind
with_kind kinds k = if has_kind kinds k then kinds else kinds ++ k ∷ []

-- a parent with a type, if both are there
abbrev pub kind_of : Option ℕ → Option (List ℕ) → Option Kind
kind_of None v = None
kind_of (Some p) None = None
kind_of (Some p) (Some v) = Some (p, v)

-- the parent and the type of an element, and none for the root and for a text
abbrev pub kind_at : Tree → ℕ → Option Kind
kind_at dom n = kind_of (parent_of dom n) (name_at dom n)

-- a parent with a type was not met before; what isn't one is new
abbrev pub is_new : List Kind → Option Kind → Bool
is_new kinds None = true
is_new kinds (Some k) = not (has_kind kinds k)

-- with a parent and a type, if they are there
abbrev pub with_any : List Kind → Option Kind → List Kind
with_any kinds None = kinds
with_any kinds (Some k) = with_kind kinds k

-- the first of the two answers is right for the first nodes
abbrev pub AreFirsts : Tree → List TypePlace → Type 0
AreFirsts dom places =
    (n : ℕ) (place : TypePlace) → slice_get places n ≡ Some place → place.first ≡ is_first_of_type dom n

-- a test of a place among the siblings of one type: `:first-of-type` or `:last-of-type`
abbrev pub is_of_type : Test → Bool
is_of_type test.FirstOfType = true
is_of_type test.LastOfType = true
is_of_type _ = false

-- such a test stands among these
abbrev pub plain_asks : Plain → Bool
plain_asks p = list_any is_of_type p.tests

-- such a test stands in a compound, or in a `:not` of it
abbrev pub compound_asks : Compound → Bool
compound_asks c = plain_asks c.plain || list_any plain_asks c.nots

-- such a test stands in a selector
abbrev pub selector_asks : SelectorView → Bool
selector_asks s = list_any compound_asks s.parts
