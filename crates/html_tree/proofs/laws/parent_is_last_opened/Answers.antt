use Rattle.html_tree.proofs.StateLemmas.{nodes_added, parent_last, tree_last}
use Rattle.html_tree.proofs.laws.parent_is_last_opened.Goals as goal

pub returns-clause-added : goal.returns-clause-added
returns-clause-added c = nodes_added

pub returns-clause-parent : goal.returns-clause-parent
returns-clause-parent c = parent_last

pub returns-clause-tree : goal.returns-clause-tree
returns-clause-tree c = tree_last
