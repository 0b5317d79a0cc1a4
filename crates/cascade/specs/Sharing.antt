-- Nodes to which the same rules apply.
use Rattle.std.specs.Prelude.{◌≡◌, ◌<◌, ◌&&◌, nat_eq, nat_lt, ℕ, Bool, false, List, [], ◌∷◌, ◌++◌, Option, None, Some, option_and_then, option_map, if◌then◌else◌, codes, get_or, map, slice_get}
use Rattle.std.specs.Borrow.{Bor}
use Rattle.std.specs.Cmp.Lexicographic.{pointwise}
use Rattle.std.specs.Map.{lookup}
use Rattle.std.specs.Option.{option_eq}
use Rattle.bk_num.specs.declared.ids.NodeId.{NodeId}
use Rattle.dom.specs.Nodes.{attribute_at}
use Rattle.indexmap.specs.IndexMap.{insert_entry}
use Rattle.selectors.specs.Match.{Tree}
use Rattle.match_table.specs.All.{Matched}
use Rattle.cascade.specs.declared.table.NodeWinners.{NodeWinners}
use Rattle.cascade.specs.Document.{style_decls}
use Rattle.cascade.specs.Selected.{SelectedOf, AreChosen}
use Rattle.cascade.specs.Table.{WinnersOf, AddsLike}

-- the same selectors match an earlier node, and its style attribute is the same
pub record IsLike (dom : Tree) (matched : List (List ℕ)) (e n : ℕ) : Type 0 where
  pub before : e < n
  pub groups : slice_get matched e ≡ slice_get matched n
  pub style : attribute_at dom e (codes "style") ≡ attribute_at dom n (codes "style")

-- what a node is noted by: the groups of selectors that match it, and its style attribute
abbrev pub mark_of : Tree → List (List ℕ) → ℕ → Option (List ℕ × Option (List ℕ))
mark_of dom matched n = option_map (λ row. (row, attribute_at dom n (codes "style"))) (slice_get matched n)

-- whether two are the same
abbrev pub is_same : List ℕ × Option (List ℕ) → List ℕ × Option (List ℕ) → Bool
is_same a b = pointwise nat_eq a.0 b.0 && option_eq (pointwise nat_eq) a.1 b.1

-- the nodes that are noted, as a map keeps them
abbrev pub seen_of : List ((Bor (List ℕ) × Option (Bor (List ℕ))) × NodeId) → List ((List ℕ × Option (List ℕ)) × ℕ)
seen_of entries = map (λ e. ((e.0.0.now, option_map (λ s. s.now) e.0.1), e.1.0)) entries

-- whether a node is noted by this
abbrev pub is_mark : List ℕ × Option (List ℕ) → Option (List ℕ × Option (List ℕ)) → Bool
is_mark m None = false
is_mark m (Some o) = is_same o m

-- a node that was noted, where it is an earlier one and is noted by this
abbrev pub if_like : Tree → List (List ℕ) → ℕ → List ℕ × Option (List ℕ) → ℕ → Option ℕ
if_like dom matched n m e = if nat_lt e n && is_mark m (mark_of dom matched e) then Some e else None

-- the earlier node that is found for a node: the one that was noted by the same
abbrev pub found_for : Tree → List (List ℕ) → List ((List ℕ × Option (List ℕ)) × ℕ) → ℕ → Option ℕ
found_for dom matched noted n =
    option_and_then (λ m. option_and_then (if_like dom matched n m) (lookup (is_same m) noted)) (mark_of dom matched n)

-- the nodes that are noted, with one more
abbrev pub noted_as :
    Option (List ℕ × Option (List ℕ)) → ℕ → List ((List ℕ × Option (List ℕ)) × ℕ) →
    List ((List ℕ × Option (List ℕ)) × ℕ)
noted_as None n noted = noted
noted_as (Some m) n noted = insert_entry is_same noted m n

-- a node is added like the earlier one that is found for it; where none is found, it is the first of its like, and is
-- noted for those after it
pub record SharesFound (dom : Tree) (matched : List (List ℕ)) (n : ℕ)
    (noted later : List ((List ℕ × Option (List ℕ)) × ℕ)) (all more : WinnersOf) : Type 0 where
  pub found : (e : ℕ) → found_for dom matched noted n ≡ Some e → AddsLike all e more × (later ≡ noted)
  pub none :
      found_for dom matched noted n ≡ None →
      (more.firsts ≡ all.firsts ++ n ∷ []) × (later ≡ noted_as (mark_of dom matched n) n noted)

-- the places of the selectors of these groups
abbrev pub places_in : List (List ℕ) → List ℕ → List ℕ
places_in groups [] = []
places_in groups (g ∷ gs) = get_or groups g [] ++ places_in groups gs

-- what wins at a node by the selectors that match it and by its style attribute
abbrev pub IsChosenAt : Tree → List SelectedOf → Matched → ℕ → NodeWinners → Type 0
IsChosenAt dom ss matched n w =
    (row : List ℕ) → slice_get matched.rows n ≡ Some row →
    AreChosen ss (places_in matched.groups row) (style_decls dom n) w

-- so at the first nodes
abbrev pub AreChosenAt : Tree → List SelectedOf → Matched → List NodeWinners → Type 0
AreChosenAt dom ss matched all = (k : ℕ) (w : NodeWinners) → slice_get all k ≡ Some w → IsChosenAt dom ss matched k w

-- a node is added with what wins at it, where that holds for those before it
pub record AddsChosen (dom : Tree) (ss : List SelectedOf) (matched : Matched) (n : ℕ)
    (all more : List NodeWinners) : Type 0 where
  pub winners : NodeWinners
  pub added : more ≡ all ++ winners ∷ []
  pub chosen : AreChosenAt dom ss matched all → IsChosenAt dom ss matched n winners
