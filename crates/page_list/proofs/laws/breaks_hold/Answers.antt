use Rattle.page_list.proofs.BreakLemmas.{paged_breaks}
use Rattle.page_list.proofs.laws.breaks_hold.Goals as goal

pub returns : goal.returns
returns c faces flow frames pages can paged = paged_breaks faces flow frames can pages paged
