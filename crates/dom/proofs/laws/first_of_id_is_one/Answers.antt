use Rattle.dom.proofs.OrderLemmas.{first-one}
use Rattle.dom.proofs.laws.first_of_id_is_one.Goals as goal

pub returns : goal.returns
returns c = first-one
