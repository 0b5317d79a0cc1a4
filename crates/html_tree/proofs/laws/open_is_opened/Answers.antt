use Rattle.html_tree.proofs.StateLemmas.{open_opened, open_path}
use Rattle.html_tree.proofs.laws.open_is_opened.Goals as goal

pub returns-clause-open : goal.returns-clause-open
returns-clause-open c = open_opened

pub returns-clause-path : goal.returns-clause-path
returns-clause-path c = open_path
