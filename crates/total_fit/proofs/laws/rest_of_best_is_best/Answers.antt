use Rattle.total_fit.proofs.SuffixLemmas.{rest-of-best}
use Rattle.total_fit.proofs.laws.rest_of_best_is_best.Goals as goal

pub returns : goal.returns
returns c = rest-of-best
