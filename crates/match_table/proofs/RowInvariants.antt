-- What holds while a selector's place goes into the lists of the nodes that it matches.
use Rattle.std.proofs.Common.{◌≡◌, ◌⊎◌, ◌<◌, ◌↔◌, ℕ, List, [], ◌∷◌, ◌++◌, get_or, length}
use Rattle.std.specs.List.{Contains}
use Rattle.selectors.specs.Selectors.{SelectorView}
use Rattle.selectors.specs.Match.{Tree, Matches}
use Rattle.match_table.specs.All.{AreAscending, MatchesAt}

-- a node's list has the place where it matches, and a node that was seen is marked
abbrev pub IsGoing : Tree → SelectorView → (ℕ → Type 0) → ℕ → ℕ → List ℕ → List ℕ → Type 0
IsGoing dom s Seen n k old new = (Matches dom s n × (new ≡ old ++ k ∷ [])) ⊎ ((Seen n → Matches dom s n → ⊥) × (new ≡ old))

abbrev pub AreGoing : Tree → SelectorView → (ℕ → Type 0) → ℕ → List (List ℕ) → List (List ℕ) → Type 0
AreGoing dom s Seen k old new = (n : ℕ) → n < length old → IsGoing dom s Seen n k (get_or old n []) (get_or new n [])

-- a node's list is right for the first k selectors
pub record IsRow (dom : Tree) (ss : List SelectorView) (k n : ℕ) (ks : List ℕ) : Type 0 where
  pub ascending : AreAscending ks
  pub each : (j : ℕ) → Contains ks j ↔ ((j < k) × MatchesAt dom ss j n)

abbrev pub AreRows : Tree → List SelectorView → ℕ → List (List ℕ) → Type 0
AreRows dom ss k rows = (n : ℕ) → n < length rows → IsRow dom ss k n (get_or rows n [])
