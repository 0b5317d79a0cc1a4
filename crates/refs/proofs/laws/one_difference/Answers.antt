use Rattle.refs.proofs.LawLemmas.{differences}
use Rattle.refs.proofs.laws.one_difference.Goals as goal

pub returns : goal.returns
returns c = differences
