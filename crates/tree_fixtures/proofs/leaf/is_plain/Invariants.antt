use Rattle.std.proofs.Common.{ℕ, ◌<◌, slice_index}
use Rattle.tree_fixtures.specs.Leaves.{IsPlainByte}
use Rattle.tree_fixtures.proofs.leaf.is_plain.Given as goal

abbrev pub invariant-loop-byte : goal.invariant-loop-byte
invariant-loop-byte l = (k : ℕ) → k < l.byte-index → IsPlainByte (slice_index l.text k)
