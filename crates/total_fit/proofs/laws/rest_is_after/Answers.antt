use Rattle.total_fit.proofs.RestLemmas.{rest-after}
use Rattle.total_fit.proofs.laws.rest_is_after.Goals as goal

pub returns : goal.returns
returns c = rest-after
