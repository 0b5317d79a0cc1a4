use Rattle.std.proofs.Common.{◌≡◌, ◌+◌, ◌-◌, ◌≤◌, ℕ, leb, length, drop}
use Rattle.std.specs.List.{prefix_len}
use Rattle.soft_hyphens.proofs.texts.count_upto.Given as goal

abbrev pub invariant-loop-count : goal.invariant-loop-count
invariant-loop-count l = record {
  within : l.count ≤ length l.offsets;
  all : l.count + prefix_len (λ (o : ℕ). leb o l.end) (drop l.count l.offsets) ≡ prefix_len (λ (o : ℕ). leb o l.end) l.offsets;
}

abbrev pub decreases-loop-count : goal.decreases-loop-count
decreases-loop-count l = length l.offsets - l.count
