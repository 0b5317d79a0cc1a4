-- Tree order, and the first element of an id in it.
use Rattle.std.specs.Prelude.{◌≡◌, ℕ, zero, suc, Bool, true, false, List, [], ◌∷◌, ◌++◌, Option, None, Some, MatchOption}
use Rattle.std.specs.Str.{bytes_eq}
use Rattle.std.specs.Ordering.{nat_cmp, is_gt}
use Rattle.std.specs.Cmp.Lexicographic.{slice_cmp}
use Rattle.dom.specs.Nodes.{Node, parents_of, parent_at, depth_at, attribute_at, IsTree}

-- the last d nodes of the way from the root to a node
abbrev pub way : List (Option ℕ) → ℕ → Option ℕ → List ℕ
way ps zero n = []
way ps (suc d) None = []
way ps (suc d) (Some n) = way ps d (parent_at ps n) ++ n ∷ []

-- the nodes from the root to a node
abbrev pub way_to : List Node → ℕ → List ℕ
way_to nodes n = way (parents_of nodes) (depth_at nodes n) (Some n)

-- whether one node comes after another in tree order (DOM, 4.2, "tree order"): the order of their ways, the shorter
-- before what goes on from it
abbrev pub comes_after : List Node → ℕ → ℕ → Bool
comes_after nodes a b = is_gt (slice_cmp nat_cmp (way_to nodes a) (way_to nodes b))

-- whether a value is there and is this text
abbrev pub is_text : List ℕ → Option (List ℕ) → Bool
is_text id None = false
is_text id (Some value) = bytes_eq value id

-- whether a node is an element of this id
abbrev pub has_id : List Node → List ℕ → ℕ → Bool
has_id nodes id n = is_text id (attribute_at nodes n (105 ∷ 100 ∷ []))

-- the element of an id that comes after no other, or none where there is none
abbrev pub IsFirstOf : List Node → List ℕ → Option ℕ → Type 0
IsFirstOf nodes id r = MatchOption r ((m : ℕ) → has_id nodes id m ≡ false)
    (λ n. (has_id nodes id n ≡ true) × ((m : ℕ) → has_id nodes id m ≡ true → comes_after nodes n m ≡ false))

-- whether a node comes before the first of an id, if there is one
abbrev pub leads : List Node → ℕ → Option ℕ → Bool
leads nodes n None = true
leads nodes n (Some m) = comes_after nodes m n

-- ---- law

-- an id has one first element
abbrev pub FirstIsOne : Type 0
FirstIsOne = (nodes : List Node) (id : List ℕ) (a b : Option ℕ) → IsTree nodes → IsFirstOf nodes id a →
    IsFirstOf nodes id b → a ≡ b
