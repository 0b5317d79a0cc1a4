use Rattle.page_list.proofs.InsideLemmas.{pages_inside}
use Rattle.page_list.proofs.laws.pages_end_inside.Goals as goal

pub returns : goal.returns
returns c = pages_inside
