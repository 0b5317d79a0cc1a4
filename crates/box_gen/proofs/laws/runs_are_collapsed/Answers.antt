use Rattle.box_gen.proofs.RunLawLemmas.{runs-are-collapsed}
use Rattle.box_gen.proofs.laws.runs_are_collapsed.Goals as goal

pub returns : goal.returns
returns c = runs-are-collapsed
