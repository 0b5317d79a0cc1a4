use Rattle.total_fit.proofs.SuffixLemmas.{potentials-are-of-rest}
use Rattle.total_fit.proofs.laws.potentials_are_of_rest.Goals as goal

pub returns : goal.returns
returns c = potentials-are-of-rest
