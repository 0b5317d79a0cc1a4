-- How the lists of matches grow by one selector after another.
use Rattle.std.specs.Prelude.{◌≡◌, ◌⊎◌, ◌↔◌, ◌<◌, ◌-◌, ℕ, Bool, false, List, [], ◌∷◌, ◌++◌, Option, Some, None, get_or, length, slice_get, slice_set, if◌then◌else◌, ◌==◌}
use Rattle.std.specs.List.{All, Contains}
use Rattle.selectors.specs.Selectors.{SelectorView}
use Rattle.selectors.specs.Match.{Tree, Matches}
use Rattle.match_table.specs.All.{AreAscending, MatchesAt}

-- the last number of a list is this one
abbrev pub is_same : ℕ → Option ℕ → Bool
is_same k None = false
is_same k (Some m) = m == k

-- a list with a number at its end, which isn't repeated there
unfoldable pub with_last : List ℕ → ℕ → List ℕ
with_last ks k = if is_same k (slice_get ks (length ks - 1)) then ks else ks ++ k ∷ []

-- the lists, where that of a node has a number at its end
unfoldable pub with_place : List (List ℕ) → ℕ → ℕ → List (List ℕ)
with_place rows n k = slice_set rows n (with_last (get_or rows n []) k)

-- a node that is hit has a number at the end of its list
abbrev pub placed_if : Bool → List (List ℕ) → ℕ → ℕ → List (List ℕ)
placed_if hit rows n k = if hit then with_place rows n k else rows

-- the numbers in all lists are below one
abbrev pub AreBelow : ℕ → List (List ℕ) → Type 0
AreBelow k rows = (n : ℕ) → All (λ m. m < k) (get_or rows n [])

-- a selector's place stands at the end of a node's list where it matches the node, and the list stays where not
abbrev pub IsMarked : Tree → SelectorView → ℕ → ℕ → List ℕ → List ℕ → Type 0
IsMarked dom s n k old new = (Matches dom s n × (new ≡ old ++ k ∷ [])) ⊎ ((Matches dom s n → ⊥) × (new ≡ old))

-- the lists of all nodes after one more selector
abbrev pub AreMarked : Tree → SelectorView → ℕ → List (List ℕ) → List (List ℕ) → Type 0
AreMarked dom s k old new = (n : ℕ) → n < length old → IsMarked dom s n k (get_or old n []) (get_or new n [])

-- the nodes that a selector matches are among these
abbrev pub HasCandidates : Tree → SelectorView → List ℕ → Type 0
HasCandidates dom s nodes = (n : ℕ) → n < length dom → Matches dom s n → Contains nodes n

-- the numbers of the selectors that match a node, each once, in ascending order
pub record IsMatchRow (dom : Tree) (ss : List SelectorView) (n : ℕ) (ks : List ℕ) : Type 0 where
  pub ascending : AreAscending ks
  pub each : (k : ℕ) → Contains ks k ↔ MatchesAt dom ss k n

-- so for each node
abbrev pub AreMatchRows : Tree → List SelectorView → List (List ℕ) → Type 0
AreMatchRows dom ss rows = (n : ℕ) (ks : List ℕ) → slice_get rows n ≡ Some ks → IsMatchRow dom ss n ks
