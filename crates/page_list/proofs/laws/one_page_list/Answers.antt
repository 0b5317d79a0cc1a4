use Rattle.cursor.proofs.RemLemmas.{remainder_unique}
use Rattle.page_list.proofs.OneLemmas.{paged_unique}
use Rattle.page_list.proofs.laws.one_page_list.Goals as goal

pub returns : goal.returns
returns c = paged_unique remainder_unique
