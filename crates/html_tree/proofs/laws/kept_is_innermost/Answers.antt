use Rattle.html_tree.proofs.ScopeLemmas.{kept_innermost, all_kept}
use Rattle.html_tree.proofs.laws.kept_is_innermost.Goals as goal

pub returns-clause-some : goal.returns-clause-some
returns-clause-some c = kept_innermost

pub returns-clause-none : goal.returns-clause-none
returns-clause-none c = all_kept
