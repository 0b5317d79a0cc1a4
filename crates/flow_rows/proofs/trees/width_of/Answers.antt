use Rattle.boxes.proofs.TreeFacts.{box_good}
use Rattle.flow_rows.proofs.trees.width_of.Goals as goal

pub content_width_in-requires-clause-good : goal.content_width_in-requires-clause-good
content_width_in-requires-clause-good c = box_good c.args.tree.now c.count-count.ensures.tree c.args.index c.props.result.now c.props.ensures
