use Rattle.notes.proofs.NoteLemmas.{area_never_falls}
use Rattle.notes.proofs.laws.area_never_falls.Goals as goal

pub returns : goal.returns
returns c = area_never_falls
