use Rattle.std.proofs.Common.{◌≡◌, ℕ, ◌≤◌, length}
use Rattle.counters.specs.Chains.{chain, beyond}
use Rattle.counters.proofs.Heights.{height}
use Rattle.counters.proofs.scopes.reaching.Given as goal

abbrev pub invariant-loop-head : goal.invariant-loop-head
invariant-loop-head l = (most : ℕ) → length l.marks ≤ most → beyond l.place (chain most l.marks l.head) ≡ beyond l.place (chain most l.marks l.fn.from)

abbrev pub decreases-loop-head : goal.decreases-loop-head
decreases-loop-head l = height l.head
