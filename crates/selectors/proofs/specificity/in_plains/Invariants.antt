use Rattle.std.proofs.Common.{◌≡◌, ◌≤◌, ◌+◌, length}
use Rattle.selectors.specs.Specificity.{in_plains, held}
use Rattle.selectors.proofs.specificity.in_plains.Given as goal

abbrev pub invariant-loop-left : goal.invariant-loop-left
invariant-loop-left l = record {
  few : l.total ≤ 4294967295;
  same : held (l.total + in_plains l.count l.left) ≡ held (in_plains l.count l.fn.plains);
}

abbrev pub decreases-loop-left : goal.decreases-loop-left
decreases-loop-left l = length l.left
