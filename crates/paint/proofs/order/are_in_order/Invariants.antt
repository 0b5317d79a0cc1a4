use Rattle.std.proofs.Common.{drop}
use Rattle.paint.specs.Order.{AreInOrder}
use Rattle.paint.proofs.order.are_in_order.Given as goal

abbrev pub invariant-loop-s : goal.invariant-loop-s
invariant-loop-s l = record {
  enough : AreInOrder l.tree l.from (drop l.s-index l.solids) → AreInOrder l.tree 0 l.solids;
  needed : AreInOrder l.tree 0 l.solids → AreInOrder l.tree l.from (drop l.s-index l.solids);
}
