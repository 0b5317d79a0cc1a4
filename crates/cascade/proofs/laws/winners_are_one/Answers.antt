use Rattle.cascade.proofs.OneListLemmas.{winners_are_one}
use Rattle.cascade.proofs.laws.winners_are_one.Goals as goal

pub returns : goal.returns
returns c = winners_are_one
