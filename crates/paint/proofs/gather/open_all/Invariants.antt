use Rattle.std.proofs.Common.{◌≤◌, length}
use Rattle.paint.proofs.PartLemmas.{IsStarted}
use Rattle.paint.proofs.gather.open_all.Given as goal

abbrev pub invariant-loop-left : goal.invariant-loop-left
invariant-loop-left l = record {
  within : l.left ≤ length l.chain;
  started : IsStarted l.tree l.origin.width l.chain l.left l.parts.items;
}

abbrev pub decreases-loop-left : goal.decreases-loop-left
decreases-loop-left l = l.left
