use Rattle.boxes.proofs.TreeFacts.{leaf_there}
use Rattle.flow_rows.proofs.flows.push_event.Goals as goal

pub leaf-requires : goal.leaf-requires
leaf-requires c = leaf_there c.args.tree.now c.count.ensures.tree c.args.at c.in-Leaf.number c.in-Leaf.ensures
