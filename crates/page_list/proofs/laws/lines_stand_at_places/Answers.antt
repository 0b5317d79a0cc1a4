use Rattle.page_list.proofs.PlaceLemmas.{lines_there}
use Rattle.page_list.proofs.laws.lines_stand_at_places.Goals as goal

pub returns : goal.returns
returns c = lines_there
