use Rattle.gen_text.proofs.OneLemmas.{targets-one}
use Rattle.gen_text.proofs.laws.targets_are_one.Goals as goal

pub returns : goal.returns
returns c = targets-one
