use Rattle.std.proofs.Common.{◌≡◌, ◌+◌, ◌^◌, ◌++◌, ◌≤ℤ◌, pos, neg_ℤ, drop}
use Rattle.page_seq.specs.Numbers.{numbers_of, numbers_after}
use Rattle.page_seq.proofs.numbers.numbers.Given as goal

abbrev pub invariant-loop-value : goal.invariant-loop-value
invariant-loop-value l = record {
  numbers : numbers_of l.flow.main l.list.pages l.flow.resets ≡ l.numbers.items ++ numbers_after l.number (drop l.value-index l.value-items);
  low : neg_ℤ (pos (2 ^ 40)) ≤ℤ l.number;
  high : l.number ≤ℤ pos (2 ^ 40 + l.value-index);
}
