use Rattle.boxes.proofs.TreeFacts.{box_there}
use Rattle.flow_rows.proofs.trees.span_at.Goals as goal

pub span-requires : goal.span-requires
span-requires c = box_there c.args.tree.now c.count.ensures.tree c.args.at c.in-Opens.index c.in-Opens.ensures
