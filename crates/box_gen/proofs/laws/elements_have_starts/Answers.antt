use Rattle.box_gen.proofs.StartLemmas.{elements-have-starts}
use Rattle.box_gen.proofs.laws.elements_have_starts.Goals as goal

pub returns : goal.returns
returns c = elements-have-starts
