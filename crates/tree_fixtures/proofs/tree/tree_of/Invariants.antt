use Rattle.std.proofs.Common.{◌≡◌, ◌≤◌, ◌^◌, All, false}
use Rattle.boxes.specs.Clones.{AreSliced}
use Rattle.tree_fixtures.specs.Leaves.{IsShortLeaf, bytes_of}
use Rattle.tree_fixtures.proofs.tree.tree_of.Given as goal

abbrev pub invariant-loop-step : goal.invariant-loop-step
invariant-loop-step l = record {
  leaves : All IsShortLeaf l.tree.leaves;
  bytes : bytes_of l.tree.leaves ≡ l.bytes;
  few : l.bytes ≤ 2 ^ 25;
  sliced : l.clones ≡ false → AreSliced l.tree.boxes;
}
