use Rattle.std.proofs.Common.{◌≡◌, ◌≤ℤ◌, pos, neg_ℤ, ◌^◌, fold, drop}
use Rattle.std.specs.Int.{int_max, int_min}
use Rattle.margins.specs.Gaps.{highest, lowest}
use Rattle.margins.proofs.gap.Given as goal

abbrev pub invariant-loop-at : goal.invariant-loop-at
invariant-loop-at l = record {
  most : fold int_max l.extremes.high (drop l.at l.list) ≡ highest l.list;
  least : fold int_min l.extremes.low (drop l.at l.list) ≡ lowest l.list;
  high : l.extremes.high ≤ℤ pos (2 ^ 27);
  low : neg_ℤ (pos (2 ^ 27)) ≤ℤ l.extremes.low;
  positive : pos 0 ≤ℤ l.extremes.high;
  negative : l.extremes.low ≤ℤ pos 0;
}
