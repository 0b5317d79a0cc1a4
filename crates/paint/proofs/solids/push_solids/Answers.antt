use Rattle.paint.proofs.OrderLemmas.{order_stands}
use Rattle.paint.proofs.solids.push_solids.Goals as goal

pub push_next-requires-clause-stands : goal.push_next-requires-clause-stands
push_next-requires-clause-stands c = order_stands c.args.canvas.now.tree.now 0 c.args.solids.now c.requires.order c.loop-s.s-index _ c.loop-s-test.true
