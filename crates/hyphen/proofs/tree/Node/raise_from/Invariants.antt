use Rattle.std.proofs.Common.{◌≡◌, ℕ, ◌-◌, ◌<◌, ◌++◌, Bool, List, length, get_or, max, take, drop}
use Rattle.hyphen.specs.Pattern.{most}
use Rattle.hyphen.specs.Pieces.{branch_from}
use Rattle.hyphen.specs.Tree.{values_in}
use Rattle.hyphen.proofs.tree.Node.raise_from.Given as goal

abbrev pub invariant-loop-end : goal.invariant-loop-end
invariant-loop-end l = record {
  len : length l.values.items ≡ length l.fn.values.items;
  walk : (e : Bool) (q : List ℕ) (k : ℕ) → values_in l.node e q k ≡ values_in l.self e (take (l.end - l.at) (drop l.at l.word) ++ q) k;
  greater : (q : ℕ) → q < length l.fn.values.items → get_or l.values.items q 0 ≡ max (get_or l.fn.values.items q 0) (most (l.end - l.at) (branch_from (values_in l.self) l.word q l.at));
}
