use Rattle.refs.proofs.LawLemmas.{ascend}
use Rattle.refs.proofs.laws.targets_ascend.Goals as goal

pub returns : goal.returns
returns c = ascend
