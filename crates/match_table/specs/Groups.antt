-- Groups of equal selectors, for the contracts of private functions.
use Rattle.std.specs.Prelude.{◌≡◌, ◌<◌, ℕ, List, [], ◌∷◌, ◌++◌, Some, get_or, length, slice_get}
use Rattle.std.specs.List.{Contains}
use Rattle.selectors.specs.Selectors.{SelectorView}
use Rattle.match_table.specs.All.{AreAscending}

-- the k-th selector is the same as the first one of a group
abbrev pub IsSame : List SelectorView → List SelectorView → ℕ → ℕ → Type 0
IsSame ss firsts g k = (s : SelectorView) × (slice_get firsts g ≡ Some s) × (slice_get ss k ≡ Some s)

-- each of the selectors before a place is in one group, with equal ones alone
pub record AreGrouped (ss : List SelectorView) (count : ℕ) (firsts : List SelectorView)
    (groups : List (List ℕ)) : Type 0 where
  pub counted : length groups ≡ length firsts
  pub ascending : (g : ℕ) → AreAscending (get_or groups g [])
  pub below : (g k : ℕ) → Contains (get_or groups g []) k → k < count
  pub same : (g k : ℕ) → Contains (get_or groups g []) k → IsSame ss firsts g k
  pub all : (k : ℕ) → k < count → (g : ℕ) × Contains (get_or groups g []) k
  pub once : (g h k : ℕ) → Contains (get_or groups g []) k → Contains (get_or groups h []) k → g ≡ h

-- the place of a selector stands at the end of a group whose first selector is the same, and the others are as before
pub record IsAdded (s : SelectorView) (k : ℕ) (firsts : List SelectorView) (groups : List (List ℕ))
    (more : List SelectorView) (new : List (List ℕ)) : Type 0 where
  pub group : ℕ
  pub first : slice_get more group ≡ Some s
  pub put : get_or new group [] ≡ get_or groups group [] ++ k ∷ []
  pub others : (h : ℕ) → (h ≡ group → ⊥) → get_or new h [] ≡ get_or groups h []
  pub kept : (h : ℕ) (t : SelectorView) → slice_get firsts h ≡ Some t → slice_get more h ≡ Some t
  pub counted : length new ≡ length more
