use Rattle.std.proofs.Common.{◌≡◌, ℕ, length, get_or}
use Rattle.hyphen.proofs.RaiseLemmas.{raised}
use Rattle.hyphen.proofs.raise.raise.Given as goal

abbrev pub invariant-loop-k : goal.invariant-loop-k
invariant-loop-k l = record {
  len : length l.values.items ≡ length l.fn.values.items;
  greater : (q : ℕ) → get_or l.values.items q 0 ≡ raised l.fn.values.items l.others l.from l.k q;
}
