use Rattle.boxes.proofs.TreeFacts.{leaf_there}
use Rattle.page_seq.proofs.places.anchor_of.Goals as goal

pub leaf-requires : goal.leaf-requires
leaf-requires c = leaf_there c.args.tree.now c.count.ensures.tree c.args.at.event c.in-Leaf.number c.in-Leaf.ensures
