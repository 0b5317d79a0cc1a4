-- What it is for a selector to match a node (Selectors 3, 8), and how specific it is (Selectors 3, 9).
use Rattle.std.specs.Prelude.{◌≡◌, ℕ, zero, suc, Bool, true, false, List, Option, Some, None, slice_get, length}
use Rattle.std.specs.Option.{option_map_or}
use Rattle.dom.specs.Nodes.{Node, parents_of, parent_at}
use Rattle.selectors.specs.Walk.{prev_element}
use Rattle.selectors.specs.Fits.{fits_compound}
use Rattle.selectors.specs.declared.types.Join.{Join}
use Rattle.selectors.specs.declared.types.Join.TheVariants.{Child, Inside, Next, Later}
use Rattle.selectors.specs.declared.types.Compound.{Compound}
use Rattle.selectors.specs.Selectors.{SelectorView}

-- a document: its nodes, the root first
abbrev pub Tree : Type 0
Tree = List Node

-- the parent of a node
abbrev pub parent_of : Tree → ℕ → Option ℕ
parent_of dom n = parent_at (parents_of dom) n

-- a node is an ancestor of another
pub data IsAbove (dom : Tree) (m : ℕ) : ℕ → Type 0 where
  nearest : {n : ℕ} → parent_of dom n ≡ Some m → IsAbove dom m n
  further : {n : ℕ} (p : ℕ) → parent_of dom n ≡ Some p → IsAbove dom m p → IsAbove dom m n

-- an element is a sibling before another
pub data IsEarlier (dom : Tree) (m : ℕ) : ℕ → Type 0 where
  just_before : {n : ℕ} → prev_element dom n ≡ Some m → IsEarlier dom m n
  long_before : {n : ℕ} (p : ℕ) → prev_element dom n ≡ Some p → IsEarlier dom m p → IsEarlier dom m n

-- a node fits a compound, if there is one
abbrev pub fits_part : Tree → ℕ → Option Compound → Bool
fits_part dom n None = false
fits_part dom n (Some c) = fits_compound dom n c

-- whether a node fits the k-th compound
unfoldable pub fits : Tree → SelectorView → ℕ → ℕ → Bool
fits dom s k n = fits_part dom n (slice_get s.parts k)

-- the left node and the right one of a join
abbrev pub Stands : Tree → Join → ℕ → ℕ → Type 0
Stands dom Child m n = parent_of dom n ≡ Some m
Stands dom Inside m n = IsAbove dom m n
Stands dom Next m n = prev_element dom n ≡ Some m
Stands dom Later m n = IsEarlier dom m n

-- the left node and the right one of a join, if there is one
abbrev pub StandBy : Tree → Option Join → ℕ → ℕ → Type 0
StandBy dom None m n = ⊥
StandBy dom (Some j) m n = Stands dom j m n

-- there are nodes for the compounds up to the k-th, each fits, neighbours stand by their join, and the last is n
abbrev pub Reaches : Tree → SelectorView → ℕ → ℕ → Type 0
Reaches dom s zero n = fits dom s 0 n ≡ true
Reaches dom s (suc k) n =
    (fits dom s (suc k) n ≡ true) × ((m : ℕ) × StandBy dom (slice_get s.joins k) m n × Reaches dom s k m)

-- a selector matches a node (Selectors 3, 8): its compounds reach the node
abbrev pub Matches : Tree → SelectorView → ℕ → Type 0
Matches dom s n = Reaches dom s (length s.joins) n

-- two joins are the same
abbrev pub is_join : Join → Join → Bool
is_join Child Child = true
is_join Inside Inside = true
is_join Next Next = true
is_join Later Later = true
is_join _ _ = false

-- whether this join comes after the k-th compound
unfoldable pub joins_by : SelectorView → Join → ℕ → Bool
joins_by s join k = option_map_or (is_join join) (slice_get s.joins k) false
