use Rattle.total_fit.proofs.SuffixLemmas.{best-goes-on}
use Rattle.total_fit.proofs.laws.best_goes_on.Goals as goal

pub returns : goal.returns
returns c = best-goes-on
