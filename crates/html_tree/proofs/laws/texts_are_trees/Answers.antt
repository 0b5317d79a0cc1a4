use Rattle.html_tree.proofs.OrderLemmas.{tree-order}
use Rattle.html_tree.proofs.TreeLemmas.{texts-stand}
use Rattle.html_tree.proofs.laws.texts_are_trees.Goals as goal

pub returns-clause-tree : goal.returns-clause-tree
returns-clause-tree c = texts-stand

pub returns-clause-order : goal.returns-clause-order
returns-clause-order c = tree-order
