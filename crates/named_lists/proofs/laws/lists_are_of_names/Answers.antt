use Rattle.named_lists.proofs.ListLemmas.{are-of-names}
use Rattle.named_lists.proofs.laws.lists_are_of_names.Goals as goal

pub returns : goal.returns
returns g c = are-of-names _
