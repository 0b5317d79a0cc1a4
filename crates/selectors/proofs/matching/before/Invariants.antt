use Rattle.std.proofs.Common.{◌≡◌, ◌&&◌, ℕ, suc}
use Rattle.std.specs.Prelude.{nat_lt}
use Rattle.selectors.specs.Sets.{has}
use Rattle.selectors.specs.Match.{joins_by}
use Rattle.selectors.proofs.matching.before.Given as goal

abbrev pub invariant-loop-k : goal.invariant-loop-k
invariant-loop-k l = (j : ℕ) → has l.wanted j ≡ (nat_lt (suc j) l.k && (joins_by l.selector l.join j && has l.found (suc j)))
