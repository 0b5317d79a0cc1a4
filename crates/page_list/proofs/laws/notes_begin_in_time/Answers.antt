use Rattle.page_list.proofs.BeginLemmas.{paged_begins}
use Rattle.page_list.proofs.laws.notes_begin_in_time.Goals as goal

pub returns : goal.returns
returns c = λ faces flow frames pages can. paged_begins faces flow frames can pages
