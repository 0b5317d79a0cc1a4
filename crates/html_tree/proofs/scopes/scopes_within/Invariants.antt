use Rattle.std.proofs.Common.{◌≡◌, ◌<◌, ℕ, Some, false, length, slice_get, get_or}
use Rattle.html_tree.specs.Rules.{Rule, rules}
use Rattle.html_tree.specs.Scopes.{has_within}
use Rattle.html_tree.proofs.scopes.scopes_within.Given as goal

abbrev pub invariant-loop-row : goal.invariant-loop-row
invariant-loop-row l = record {
  long : length l.scopes ≡ 8;
  done : (i : ℕ) (r : Rule) → i < l.row → slice_get rules i ≡ Some r → get_or l.scopes i false ≡ has_within r l.name (get_or l.outer i false);
}
