use Rattle.html_tree.proofs.TreeOrderLemmas.{tree-order}
use Rattle.html_tree.proofs.laws.numbers_are_in_tree_order.Goals as goal

pub returns : goal.returns
returns c = tree-order
