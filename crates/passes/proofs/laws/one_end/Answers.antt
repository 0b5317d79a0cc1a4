use Rattle.passes.proofs.EndLemmas.{one_end}
use Rattle.passes.proofs.laws.one_end.Goals as goal

pub returns : goal.returns
returns c = one_end c.one_page_list.ensures c.a_page_list_leaves_nothing.ensures
