-- Whether the rows of the table have an element in scope (HTML, 13.2.4.2 "have a particular element in a specific
-- scope"), told for each open element of those up to it.
use Rattle.std.specs.Prelude.{◌≡◌, ℕ, suc, Bool, false, not, List, Some, is_some, ◌&&◌, ◌||◌, length, slice_get, slice_index_or}
use Rattle.bk_num.specs.Names.{has_name}
use Rattle.bk_num.specs.declared.ids.NodeId.{NodeId}
use Rattle.dom.specs.Nodes.{Node}
use Rattle.html_tree.specs.Rules.{Rule, rules}
use Rattle.html_tree.specs.Tree.{kept}

-- a row has an element in scope among the first n open ones
abbrev pub has_in_scope : Rule → List Node → List NodeId → ℕ → Bool
has_in_scope r nodes opened n = is_some (kept (has_name r.closes) (has_name r.scope) nodes opened n)

-- whether it has one where an element of this name comes next, and `outer` tells it of those around it
abbrev pub has_within : Rule → List ℕ → Bool → Bool
has_within r name outer = has_name r.closes name || outer && not (has_name r.scope name)

-- for each row whether it has one among the first n
abbrev pub AreScopes : List Node → List NodeId → ℕ → List Bool → Type 0
AreScopes nodes opened n flags = (i : ℕ) (r : Rule) → slice_get rules i ≡ Some r →
    slice_index_or flags i false ≡ has_in_scope r nodes opened n

-- each open element has those of the elements up to it
pub record HaveScopes (nodes : List Node) (opened : List NodeId) (scopes : List (List Bool)) : Type 0 where
  pub count : length scopes ≡ length opened
  pub each : (k : ℕ) (flags : List Bool) → slice_get scopes k ≡ Some flags → AreScopes nodes opened (suc k) flags
