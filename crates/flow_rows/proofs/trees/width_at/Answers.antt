use Rattle.boxes.proofs.TreeFacts.{box_there}
use Rattle.flow_rows.proofs.trees.width_at.Goals as goal

pub width_of-requires-clause-number : goal.width_of-requires-clause-number
width_of-requires-clause-number c = box_there c.args.tree.now c.count.ensures.tree c.args.at c.in-Opens.index c.in-Opens.ensures
