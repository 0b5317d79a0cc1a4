-- The values that a tree of letters has.
use Rattle.std.specs.Prelude.{Box, ℕ, Bool, true, false, List, [], ◌∷◌, max, slice_index, if◌then◌else◌}
use Rattle.std.specs.Option.{option_map_or}
use Rattle.std.specs.Ordering.{nat_cmp}
use Rattle.std.specs.BTreeMap.{get_by}
use Rattle.std.specs.Global.{Global}
use Rattle.hyphen.specs.declared.tree.Node.{Node, out-Node}

-- the values at a node of patterns that stand anywhere, or of those that stand only at a word's end
unfoldable pub own_values : Node → Bool → List ℕ
own_values n e = if e then (out-Node n).at_end.items else (out-Node n).anywhere.items

-- the same at letters; none is 0
unfoldable pub values_in : Node → Bool → List ℕ → ℕ → ℕ
values_in n e [] k = slice_index (own_values n e) k
values_in n e (c ∷ cs) k = option_map_or (λ (child : Box Node Global). values_in child.value e cs k)
    (get_by (nat_cmp c) (out-Node n).next) 0

-- the greater of both at a node, where a word ends there
unfoldable pub node_values : Node → Bool → ℕ → ℕ
node_values n ends k = max (values_in n false [] k) (if ends then values_in n true [] k else 0)
