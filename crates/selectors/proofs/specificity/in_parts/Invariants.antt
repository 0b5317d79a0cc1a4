use Rattle.std.proofs.Common.{◌≡◌, ◌≤◌, ◌+◌, length}
use Rattle.selectors.specs.Specificity.{in_parts, held}
use Rattle.selectors.proofs.specificity.in_parts.Given as goal

abbrev pub invariant-loop-left : goal.invariant-loop-left
invariant-loop-left l = record {
  few : l.total ≤ 4294967295;
  same : held (l.total + in_parts l.count l.left) ≡ held (in_parts l.count l.fn.parts);
}

abbrev pub decreases-loop-left : goal.decreases-loop-left
decreases-loop-left l = length l.left
