use Rattle.page_list.proofs.NumberLemmas.{pages_numbered}
use Rattle.page_list.proofs.laws.pages_are_numbered.Goals as goal

pub returns : goal.returns
returns c = pages_numbered
