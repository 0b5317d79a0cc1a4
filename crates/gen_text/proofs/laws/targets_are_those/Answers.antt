use Rattle.gen_text.proofs.TextLemmas.{target-that}
use Rattle.gen_text.proofs.laws.targets_are_those.Goals as goal

pub returns : goal.returns
returns c = target-that
