use Rattle.box_gen.proofs.RunLawLemmas.{others-stay}
use Rattle.box_gen.proofs.laws.others_stay.Goals as goal

pub returns : goal.returns
returns c = others-stay
