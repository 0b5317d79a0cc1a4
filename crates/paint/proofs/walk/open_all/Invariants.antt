use Rattle.std.proofs.Common.{◌≡◌, ◌≤◌, ◌+◌, length, drop}
use Rattle.paint.specs.Opens.{AreBoxesWithin, opens_of}
use Rattle.paint.proofs.walk.open_all.Given as goal

abbrev pub invariant-loop-at : goal.invariant-loop-at
invariant-loop-at l = record {
  within : l.at ≤ length l.chain;
  opens : l.opens.items ≡ opens_of l.tree l.origin.width (drop l.at l.chain);
  count : length l.opens.items + l.at ≡ length l.chain;
  bounded : AreBoxesWithin l.opens.items;
}

abbrev pub decreases-loop-at : goal.decreases-loop-at
decreases-loop-at l = l.at
