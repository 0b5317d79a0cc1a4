use Rattle.boxes.proofs.TreeFacts.{box_good}
use Rattle.paint.proofs.rects.push_part.Goals as goal

pub push_own-requires-clause-good : goal.push_own-requires-clause-good
push_own-requires-clause-good c = box_good c.args.canvas.now.tree.now c.count-count.ensures.tree c.args.part.now.number c.props-props.result.now c.props-props.ensures
