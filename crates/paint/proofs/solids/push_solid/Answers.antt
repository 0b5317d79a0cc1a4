use Rattle.std.proofs.Common.{◌≤◌, length, arith}
use Rattle.boxes.proofs.TreeFacts.{around_there, box_good, box_there, closes_innermost, leaf_good, leaf_there}
use Rattle.paint.proofs.solids.push_solid.Goals as goal

pub props-requires : goal.props-requires
props-requires c = box_there c.args.canvas.now.tree.now c.count-count.ensures.tree c.args.s.now.at.event c.in-Opens.number c.in-Opens.ensures

pub push_edge-requires-clause-good : goal.push_edge-requires-clause-good
push_edge-requires-clause-good c = box_good c.args.canvas.now.tree.now c.count-count.ensures.tree c.in-Opens.number c.props.result.now c.props.ensures

pub leaf-requires : goal.leaf-requires
leaf-requires c = leaf_there c.args.canvas.now.tree.now c.count-count.ensures.tree c.args.s.now.at.event c.in-Leaf.number c.in-Leaf.ensures

pub push_line-requires-clause-good : goal.push_line-requires-clause-good
push_line-requires-clause-good c = leaf_good c.args.canvas.now.tree.now c.count-count.ensures.tree c.in-Leaf.number c.leaf.result.now c.leaf.ensures

pub props-requires-in-Closes : goal.props-requires-in-Closes
props-requires-in-Closes c =
    let t = c.args.canvas.now.tree.now in
    let tree = c.count-count.ensures.tree in
    let at = c.args.s.now.at.event in
    let within : at ≤ length t.events = (let w = c.requires.stands.event in omega arith) in
    around_there t tree at c.in-Closes.number within (closes_innermost t tree at c.in-Closes.number c.in-Closes.ensures)

pub push_edge-requires-in-Closes-clause-good : goal.push_edge-requires-in-Closes-clause-good
push_edge-requires-in-Closes-clause-good c = box_good c.args.canvas.now.tree.now c.count-count.ensures.tree c.in-Closes.number _ c.props-in-Closes.ensures

pub push_line-requires-clause-between : goal.push_line-requires-clause-between
push_line-requires-clause-between c = c.requires.stands.line c.in-Leaf.number c.leaf.result.now c.in-Leaf.ensures c.leaf.ensures
