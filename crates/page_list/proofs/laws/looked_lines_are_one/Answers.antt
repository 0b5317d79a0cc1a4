use Rattle.page_list.proofs.LookedLemmas.{one_looked}
use Rattle.page_list.proofs.laws.looked_lines_are_one.Goals as goal

pub returns : goal.returns
returns c = one_looked
