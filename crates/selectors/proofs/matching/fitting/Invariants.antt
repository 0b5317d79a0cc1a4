use Rattle.std.proofs.Common.{◌≡◌, ◌&&◌, ℕ}
use Rattle.std.specs.Prelude.{nat_lt}
use Rattle.selectors.specs.Sets.{has}
use Rattle.selectors.specs.Match.{fits}
use Rattle.selectors.proofs.matching.fitting.Given as goal

abbrev pub invariant-loop-k : goal.invariant-loop-k
invariant-loop-k l = (j : ℕ) → has l.found j ≡ (nat_lt j l.k && (has l.wanted j && fits l.document l.selector j l.node.0))
