-- Which selectors match each node.
use Rattle.std.specs.Prelude.{◌≡◌, ◌↔◌, ◌<◌, ℕ, List, [], ◌∷◌, Some, get_or, length, slice_get}
use Rattle.std.specs.List.{All, Contains}
use Rattle.selectors.specs.Selectors.{SelectorView}
use Rattle.selectors.specs.Match.{Tree, Matches}

-- the k-th of the selectors matches a node
abbrev pub MatchesAt : Tree → List SelectorView → ℕ → ℕ → Type 0
MatchesAt dom ss k n = (s : SelectorView) × (slice_get ss k ≡ Some s) × Matches dom s n

-- each number of a list is less than those after it
abbrev pub AreAscending : List ℕ → Type 0
AreAscending [] = Unit {0}
AreAscending (k ∷ ks) = All (λ m. k < m) ks × AreAscending ks

-- for each node the groups whose selectors match it, and for each group the places of its selectors
pub record Matched : Type 0 where
  pub rows : List (List ℕ)
  pub groups : List (List ℕ)

-- a place is in one of these groups
abbrev pub IsPlaceIn : List (List ℕ) → List ℕ → ℕ → Type 0
IsPlaceIn groups row k = (g : ℕ) × Contains row g × Contains (get_or groups g []) k

-- groups of equal selectors: the place of each selector is in one group, once, and those of a group ascend
pub record AreGroups (ss : List SelectorView) (groups : List (List ℕ)) : Type 0 where
  pub ascending : (g : ℕ) → AreAscending (get_or groups g [])
  pub equal :
      (g j k : ℕ) → Contains (get_or groups g []) j → Contains (get_or groups g []) k → slice_get ss j ≡ slice_get ss k
  pub all : (k : ℕ) → ((g : ℕ) × Contains (get_or groups g []) k) ↔ (k < length ss)
  pub once : (g h k : ℕ) → Contains (get_or groups g []) k → Contains (get_or groups h []) k → g ≡ h

-- the groups of the selectors that match a node, each once, in ascending order
pub record IsMatchList (dom : Tree) (ss : List SelectorView) (groups : List (List ℕ)) (n : ℕ)
    (row : List ℕ) : Type 0 where
  pub ascending : AreAscending row
  pub each : (k : ℕ) → IsPlaceIn groups row k ↔ MatchesAt dom ss k n

-- for each node the groups of the selectors that match it
pub record AreMatchLists (dom : Tree) (ss : List SelectorView) (t : Matched) : Type 0 where
  pub groups : AreGroups ss t.groups
  pub each : (n : ℕ) (row : List ℕ) → slice_get t.rows n ≡ Some row → IsMatchList dom ss t.groups n row
