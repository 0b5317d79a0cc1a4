use Rattle.std.proofs.Common.{◌≤◌}
use Rattle.std.specs.List.{All}
use Rattle.std.specs.List.Sorted.{IsStrictlyIncreasing}
use Rattle.std.specs.Str.{IsCharBoundary}
use Rattle.flow_rows.proofs.leaves.offsets_of.Given as goal

abbrev pub invariant-loop-at : goal.invariant-loop-at
invariant-loop-at l = record {
  ascend : IsStrictlyIncreasing l.offsets;
  stand : All (IsCharBoundary l.text) l.offsets;
  below : All (λ p. p ≤ l.last) l.offsets;
}
