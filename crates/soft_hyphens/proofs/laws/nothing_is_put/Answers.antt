use Rattle.soft_hyphens.proofs.LawLemmas.{nothing-is-put}
use Rattle.soft_hyphens.proofs.laws.nothing_is_put.Goals as goal

pub returns : goal.returns
returns c = nothing-is-put
