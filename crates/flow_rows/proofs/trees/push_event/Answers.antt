use Rattle.std.proofs.Common.{◌≤◌, length, arith}
use Rattle.boxes.proofs.TreeFacts.{around_there, box_there, closes_innermost, leaf_there}
use Rattle.flow_rows.proofs.trees.push_event.Goals as goal

pub push_opening-requires : goal.push_opening-requires
push_opening-requires c = box_there c.args.tree.now c.count.ensures.tree c.args.at c.in-Opens.index c.in-Opens.ensures

pub push_closing-requires-clause-number : goal.push_closing-requires-clause-number
push_closing-requires-clause-number c =
    let tree = c.count.ensures.tree in
    let within : c.args.at ≤ length c.args.tree.now.events = omega arith in
    around_there c.args.tree.now tree c.args.at c.in-Closes.index within (closes_innermost c.args.tree.now tree c.args.at c.in-Closes.index c.in-Closes.ensures)

pub push_closing-requires-clause-closed : goal.push_closing-requires-clause-closed
push_closing-requires-clause-closed c = (c.args.at, c.in-Closes.ensures)

pub push_text-requires : goal.push_text-requires
push_text-requires c = leaf_there c.args.tree.now c.count.ensures.tree c.args.at c.in-Leaf.number c.in-Leaf.ensures
