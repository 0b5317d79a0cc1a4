use Rattle.html_tree.proofs.OpenedLemmas.{row-get}
use Rattle.html_tree.proofs.rules.row_of.Goals as goal

pub returns : goal.returns
returns c = row-get c.args.rows.now c.args.row _ c.requires.row
