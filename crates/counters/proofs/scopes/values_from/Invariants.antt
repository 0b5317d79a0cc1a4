use Rattle.std.proofs.Common.{◌≡◌, ◌++◌, map}
use Rattle.counters.specs.declared.scopes.ScopeMark.{ScopeMark}
use Rattle.counters.specs.Chains.{all_of}
use Rattle.counters.proofs.Heights.{height}
use Rattle.counters.proofs.scopes.values_from.Given as goal

abbrev pub invariant-loop-mark : goal.invariant-loop-mark
invariant-loop-mark l = l.values.items ++ map (λ (m : ScopeMark). m.value) (all_of l.marks l.head) ≡ map (λ (m : ScopeMark). m.value) (all_of l.marks l.fn.from)

abbrev pub decreases-loop-mark : goal.decreases-loop-mark
decreases-loop-mark l = height l.head
