use Rattle.metrics.proofs.FaceLemmas.{face-is}
use Rattle.metrics.proofs.chosen.chosen_is_defined.Goals as goal

pub returns : goal.returns
returns c = face-is
