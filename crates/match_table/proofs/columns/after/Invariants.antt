use Rattle.std.proofs.Common.{◌≡◌, ◌&&◌, ℕ, suc, false}
use Rattle.std.specs.Prelude.{nat_lt}
use Rattle.selectors.specs.Sets.{has}
use Rattle.selectors.specs.Match.{joins_by}
use Rattle.match_table.proofs.columns.after.Given as goal

abbrev pub invariant-loop-k : goal.invariant-loop-k
invariant-loop-k l = record {
  first : has l.wanted 0 ≡ false;
  later : (j : ℕ) → has l.wanted (suc j) ≡ (nat_lt (suc j) l.k && (joins_by l.selector l.join j && has l.found j));
}
