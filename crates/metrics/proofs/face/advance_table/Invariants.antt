use Rattle.std.proofs.Common.{◌≡◌, ℕ, ◌<◌, length}
use Rattle.std.specs.Prelude.{slice_index}
use Rattle.metrics.specs.Face.{advance_number}
use Rattle.metrics.proofs.face.advance_table.Given as goal

abbrev pub invariant-loop-c : goal.invariant-loop-c
invariant-loop-c l = record {
  size : length l.table ≡ 2048;
  known : (k : ℕ) → k < l.c → slice_index l.table k ≡ advance_number l.lines k;
}
