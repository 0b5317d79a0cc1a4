use Rattle.boxes.proofs.TreeFacts.{leaf_good, leaf_there}
use Rattle.paint.proofs.OrderLemmas.{line_in}
use Rattle.paint.proofs.order.is_line_in.Goals as goal

pub leaf-requires : goal.leaf-requires
leaf-requires c = leaf_there c.args.tree.now c.count-count.ensures.tree c.args.s.now.at.event c.in-Leaf.number c.in-Leaf.ensures

pub is_line_of-requires : goal.is_line_of-requires
is_line_of-requires c = leaf_good c.args.tree.now c.count-count.ensures.tree c.in-Leaf.number c.leaf.result.now c.leaf.ensures

pub returns-in-Leaf : goal.returns-in-Leaf
returns-in-Leaf c = line_in c.args.tree.now c.args.s.now c.in-Leaf.number c.leaf.result.now c.is_line_of.result c.in-Leaf.ensures c.leaf.ensures c.is_line_of.ensures
