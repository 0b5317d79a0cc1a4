-- What is known of each node when a selector is matched in one pass.
use Rattle.std.specs.Prelude.{◌≡◌, ◌↔◌, ℕ, true, List, Some, slice_get}
use Rattle.selectors.specs.Sets.{has}
use Rattle.selectors.specs.Selectors.{SelectorView}
use Rattle.selectors.specs.Match.{Tree, IsAbove, IsEarlier, Reaches}
use Rattle.match_table.specs.declared.columns.Cell.{Cell}

-- the compounds up to the k-th reach a node that stands so to this one
abbrev pub ReachFrom : Tree → SelectorView → (ℕ → Type 0) → ℕ → Type 0
ReachFrom dom s Stand k = (m : ℕ) × Stand m × Reaches dom s k m

-- the sets of compounds that reach a node, an ancestor of it, and an earlier element sibling
pub record IsCell (dom : Tree) (s : SelectorView) (n : ℕ) (c : Cell) : Type 0 where
  pub reach : (k : ℕ) → (has c.reach k ≡ true) ↔ Reaches dom s k n
  pub above : (k : ℕ) → (has c.above k ≡ true) ↔ ReachFrom dom s (λ m. IsAbove dom m n) k
  pub before : (k : ℕ) → (has c.before k ≡ true) ↔ ReachFrom dom s (λ m. IsEarlier dom m n) k

-- so of the first nodes
abbrev pub AreCells : Tree → SelectorView → List Cell → Type 0
AreCells dom s cells = (n : ℕ) (c : Cell) → slice_get cells n ≡ Some c → IsCell dom s n c
