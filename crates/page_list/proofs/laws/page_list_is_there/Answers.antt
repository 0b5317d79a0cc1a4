use Rattle.page_list.proofs.ExistLemmas.{pages_exist}
use Rattle.page_list.proofs.laws.page_list_is_there.Goals as goal

pub returns : goal.returns
returns c = pages_exist
