use Rattle.boxes.proofs.TreeFacts.{leaf_there}
use Rattle.fragment.proofs.paginate.has_text.Goals as goal

pub leaf-requires : goal.leaf-requires
leaf-requires c = leaf_there c.args.tree.now c.count-count.ensures.tree c.args.event c.in-Leaf.number c.in-Leaf.ensures
