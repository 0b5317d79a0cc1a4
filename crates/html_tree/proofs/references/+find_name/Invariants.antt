use Rattle.std.proofs.Common.{length}
use Rattle.html_tree.proofs.references.+find_name.Given as goal

abbrev pub decreases-find_name : goal.decreases-find_name
decreases-find_name l = length l.rows.now
