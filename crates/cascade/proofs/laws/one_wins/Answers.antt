use Rattle.cascade.proofs.OneLemmas.{one_wins}
use Rattle.cascade.proofs.laws.one_wins.Goals as goal

pub returns : goal.returns
returns c = one_wins
