use Rattle.page_list.proofs.BoundLemmas.{paged_few}
use Rattle.page_list.proofs.laws.pages_are_few.Goals as goal

pub returns : goal.returns
returns c = paged_few
