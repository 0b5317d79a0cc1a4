use Rattle.computed.proofs.RootLemmas.{root-shown}
use Rattle.computed.proofs.laws.root_is_shown.Goals as goal

pub returns : goal.returns
returns c = root-shown
