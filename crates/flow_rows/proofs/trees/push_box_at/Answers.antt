use Rattle.boxes.proofs.TreeFacts.{box_there}
use Rattle.flow_rows.proofs.trees.push_box_at.Goals as goal

pub push_box-requires : goal.push_box-requires
push_box-requires c = box_there c.args.tree.now c.count.ensures.tree c.args.at c.in-Opens.index c.in-Opens.ensures
