-- The types met in a range of nodes.
use Rattle.std.specs.Prelude.{◌≡◌, ◌↔◌, ℕ, true, List, Some}
use Rattle.selectors.specs.Match.{Tree}
use Rattle.match_table.specs.Types.{Kind, has_kind, kind_at}

-- these are the parents and types of the nodes of a range
abbrev pub AreKindsOf : Tree → (ℕ → Type 0) → List Kind → Type 0
AreKindsOf dom Range kinds = (k : Kind) → (has_kind kinds k ≡ true) ↔ ((m : ℕ) × Range m × (kind_at dom m ≡ Some k))
