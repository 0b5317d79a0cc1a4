use Rattle.std.proofs.Common.{arith}
use Rattle.std.proofs.lemmas.Int.{ints}
use Rattle.boxes.specs.Tree.{open_before}
use Rattle.paint.proofs.leads.left_in.Goals as goal

pub returns-clause-value : goal.returns-clause-value
returns-clause-value c =
    let t = c.args.canvas.now.tree.now in
    let left = c.left_of.ensures.value t c.args.canvas.now.origin.width (open_before t.events c.args.at) c.requires.are in
    omega (arith, ints, left)
