use Rattle.cursor.proofs.RemLemmas.{remainder_unique}
use Rattle.page_list.proofs.OneLemmas.{leaves_nothing}
use Rattle.page_list.proofs.laws.a_page_list_leaves_nothing.Goals as goal

pub returns : goal.returns
returns c = leaves_nothing remainder_unique
