-- Nodes that have the same styles.
use Rattle.std.specs.Prelude.{◌≡◌, ◌<◌, ◌==◌, ◌&&◌, nat_lt, ℕ, Bool, false, true, List, [], ◌∷◌, ◌++◌, Option, None, Some, is_some, option_and_then, option_map, if◌then◌else◌, slice_get}
use Rattle.std.specs.Map.{lookup}
use Rattle.dom.specs.Nodes.{Node, parents_of, parent_at, name_at}
use Rattle.indexmap.specs.IndexMap.{insert_entry}
use Rattle.style.specs.Nodes.{NodeStyles}
use Rattle.cascade.specs.Table.{WinnersOf}
use Rattle.cascade.specs.declared.table.NodeWinners.{NodeWinners}
use Rattle.computed.specs.declared.alike.SameStyles.TheInside.{Inside}
use Rattle.computed.specs.declared.alike.Deciding.{Deciding}
use Rattle.computed.specs.Names.{node_names, with_names}
use Rattle.computed.specs.Walk.{AreNodes, IsNode}

-- what decides an element's styles: its parent's and what wins for it, each by a node that has the same
pub record IsDeciding (nodes : List Node) (winners : List NodeWinners) (firsts : List ℕ) (n : ℕ) (d : Deciding) : Type 0
  where
    pub element : is_some (name_at nodes n) ≡ true
    pub parent : ℕ
    pub below : parent_at (parents_of nodes) n ≡ Some parent
    pub first : slice_get firsts parent ≡ Some d.parent
    pub wins : slice_get winners d.winners ≡ slice_get winners n

-- ---- elements by what decides their styles

-- for each node one that has the same styles, and the elements that were noted, by what decides their styles
pub record KeptStyles : Type 0 where
  pub firsts : List ℕ
  pub known : List (Deciding × ℕ)

-- what is seen of them
abbrev pub kept_of : Inside → KeptStyles
kept_of a = record { firsts = a.firsts.items; known = a.known.entries }

-- whether two are the same
abbrev pub is_same : Deciding → Deciding → Bool
is_same d q = d.parent == q.parent && d.winners == q.winners

-- what decides an element's styles, where there is a parent: the root's are its own
abbrev pub deciding_by : List ℕ → Option ℕ → Option ℕ → Option Deciding
deciding_by firsts parent wins =
    option_and_then (λ f. option_map (λ w. record { parent = f; winners = w }) wins)
    (option_and_then (slice_get firsts) parent)

-- what decides the styles of a node; nothing those of a text
abbrev pub deciding_of : List Node → WinnersOf → List ℕ → ℕ → Option Deciding
deciding_of nodes winners firsts n =
    if is_some (name_at nodes n)
    then deciding_by firsts (parent_at (parents_of nodes) n) (slice_get winners.firsts n) else None

-- whether this decides
abbrev pub is_decided : Deciding → Option Deciding → Bool
is_decided d None = false
is_decided d (Some q) = is_same d q

-- an element that was noted, where it is an earlier one and the same decides its styles
abbrev pub if_like : List Node → WinnersOf → List ℕ → ℕ → Deciding → ℕ → Option ℕ
if_like nodes winners firsts n d e =
    if nat_lt e n && is_decided d (deciding_of nodes winners firsts e) then Some e else None

-- the earlier element that is found for a node: the one that was noted for what decides the node's styles
abbrev pub found_for : List Node → WinnersOf → KeptStyles → ℕ → Option ℕ
found_for nodes winners kept n =
    option_and_then (λ d. option_and_then (if_like nodes winners kept.firsts n d) (lookup (is_same d) kept.known))
    (deciding_of nodes winners kept.firsts n)

-- the elements that were noted, with one more
abbrev pub noted_as : Option Deciding → ℕ → List (Deciding × ℕ) → List (Deciding × ℕ)
noted_as None n known = known
noted_as (Some d) n known = insert_entry is_same known d n

-- a node is noted like the earlier one that is found for it; where none is found, it is like none before it, and is
-- noted for what decides its styles
pub record NotesFound (nodes : List Node) (winners : WinnersOf) (n : ℕ) (kept later : KeptStyles) : Type 0 where
  pub found :
      (e : ℕ) → found_for nodes winners kept n ≡ Some e →
      (later.firsts ≡ kept.firsts ++ e ∷ []) × (later.known ≡ kept.known)
  pub none :
      found_for nodes winners kept n ≡ None →
      (later.firsts ≡ kept.firsts ++ n ∷ []) ×
      (later.known ≡ noted_as (deciding_of nodes winners kept.firsts n) n kept.known)

-- ---- nodes that are alike

-- the same decides the styles of an earlier element
pub record IsLike (nodes : List Node) (winners : List NodeWinners) (firsts : List ℕ) (e n : ℕ) : Type 0 where
  pub before : e < n
  pub decides : Deciding
  pub earlier : IsDeciding nodes winners firsts e decides
  pub later : IsDeciding nodes winners firsts n decides

-- what two nodes have in common
pub record HaveRow (rows : List NodeStyles) (k f : ℕ) : Type 0 where
  pub row : NodeStyles
  pub there : slice_get rows k ≡ Some row
  pub first : slice_get rows f ≡ Some row

-- for each node one that has the same styles
abbrev pub AreFirsts : List NodeStyles → List ℕ → Type 0
AreFirsts rows firsts = (k f : ℕ) → slice_get firsts k ≡ Some f → HaveRow rows k f

-- a node's row is added, its own or that of an earlier node; its styles are what they must be, and its names are added,
-- where those before are what they must be
pub record AddsNext (names more : List (List ℕ)) (nodes : List Node) (winners : List NodeWinners) (k : ℕ)
    (firsts noted : List ℕ) (rows next : List NodeStyles) : Type 0 where
  pub row : NodeStyles
  pub added : next ≡ rows ++ row ∷ []
  pub first : ℕ
  pub is_noted : noted ≡ firsts ++ first ∷ []
  pub shared : slice_get next first ≡ Some row
  pub fits :
      (w : NodeWinners) → slice_get winners k ≡ Some w → AreNodes names nodes winners rows → AreFirsts rows firsts →
      IsNode more rows (parent_at (parents_of nodes) k) (is_some (name_at nodes k)) w row
  pub numbered :
      (w : NodeWinners) → slice_get winners k ≡ Some w → AreNodes names nodes winners rows → AreFirsts rows firsts →
      more ≡ with_names names (node_names w row)
