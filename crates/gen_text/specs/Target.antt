-- What a reference leads to (css-gcpm-3, "target-counter()"; HTML, the fragment of an address).
use Rattle.std.specs.Prelude.{◌≡◌, ℕ, ◌==◌, Bool, not, ◌&&◌, if◌then◌else◌, List, [], ◌∷◌, Option, None, Some, filter, length, slice_get}
use Rattle.std.specs.List.{list_any, range_with_len}
use Rattle.dom.specs.Nodes.{Node, IsTree, attribute_at}
use Rattle.dom.specs.Order.{IsFirstOf, comes_after, has_id}
use Rattle.style.specs.declared.content.Link.{Link}
use Rattle.style.specs.declared.content.Link.TheVariants as link
use Rattle.style.specs.Nodes.{NodeStyles, is_shown_in}

-- the address of a link: an attribute's value, or its own text
abbrev pub address_of : List Node → ℕ → Link → Option (List ℕ)
address_of nodes n (link.Attr name) = attribute_at nodes n name
address_of nodes n (link.Url address) = Some address

-- the id that an address names: what comes after a leading `#`
abbrev pub id_of : List ℕ → Option (List ℕ)
id_of [] = None
id_of (b ∷ rest) = if b == 35 then Some rest else None

-- the id that an address names, where there is one
abbrev pub id_in : Option (List ℕ) → Option (List ℕ)
id_in None = None
id_in (Some address) = id_of address

-- an element that is shown
abbrev pub shown_only : List NodeStyles → Option ℕ → Option ℕ
shown_only styles None = None
shown_only styles (Some n) = if is_shown_in (slice_get styles n) then Some n else None

-- the first element in tree order of an id, where that one is shown
abbrev pub IsOfId : List Node → List NodeStyles → Option (List ℕ) → Option ℕ → Type 0
IsOfId nodes styles None r = r ≡ None
IsOfId nodes styles (Some id) r = (first : Option ℕ) × IsFirstOf nodes id first × (r ≡ shown_only styles first)

-- what a link at a node leads to
abbrev pub IsTarget : List Node → List NodeStyles → ℕ → Link → Option ℕ → Type 0
IsTarget nodes styles n l r = IsOfId nodes styles (id_in (address_of nodes n l)) r

-- ---- the same as a function

-- the numbers of the nodes of a document
abbrev pub numbers_of : List Node → List ℕ
numbers_of nodes = range_with_len 0 (length nodes)

-- whether a node comes after one of an id in tree order
abbrev pub is_preceded : List Node → List ℕ → ℕ → Bool
is_preceded nodes id n = list_any (λ m. has_id nodes id m && comes_after nodes n m) (numbers_of nodes)

-- whether a node is the first of an id in tree order
abbrev pub is_first : List Node → List ℕ → ℕ → Bool
is_first nodes id n = has_id nodes id n && not (is_preceded nodes id n)

-- the first element of an id in tree order, where there is one
abbrev pub first_of : List Node → List ℕ → Option ℕ
first_of nodes id = slice_get (filter (is_first nodes id) (numbers_of nodes)) 0

-- the first element of an id, where there is an id, and that element is shown
abbrev pub shown_of : List Node → List NodeStyles → Option (List ℕ) → Option ℕ
shown_of nodes styles None = None
shown_of nodes styles (Some id) = shown_only styles (first_of nodes id)

-- what a link at a node leads to
abbrev pub target_of : List Node → List NodeStyles → ℕ → Link → Option ℕ
target_of nodes styles n l = shown_of nodes styles (id_in (address_of nodes n l))

-- ---- law

-- what a link leads to is that
abbrev pub TargetIsThat : Type 0
TargetIsThat = (nodes : List Node) (styles : List NodeStyles) (n : ℕ) (l : Link) (r : Option ℕ) → IsTree nodes →
    IsTarget nodes styles n l r → r ≡ target_of nodes styles n l
