use Rattle.total_fit.proofs.SuffixLemmas.{best-is-of-rest}
use Rattle.total_fit.proofs.laws.best_is_of_rest.Goals as goal

pub returns : goal.returns
returns c = best-is-of-rest
