use Rattle.box_gen.proofs.RunLawLemmas.{runs-are-hyphenated}
use Rattle.box_gen.proofs.laws.runs_are_hyphenated.Goals as goal

pub returns : goal.returns
returns c = runs-are-hyphenated
