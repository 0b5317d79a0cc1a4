use Rattle.std.proofs.Common.{◌≡◌, ℕ, ◌<◌, ◌/◌, ◌%◌, length, Some}
use Rattle.std.specs.Prelude.{slice_index}
use Rattle.metrics.specs.Face.{paired_number}
use Rattle.metrics.proofs.face.pair_table.Given as goal

abbrev pub invariant-loop-k : goal.invariant-loop-k
invariant-loop-k l = record {
  size : length l.table.items ≡ l.k;
  known : (k : ℕ) → k < length l.table.items → slice_index l.table.items k ≡ paired_number l.lines (Some (k / 128)) (k % 128);
}
