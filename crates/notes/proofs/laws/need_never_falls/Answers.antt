use Rattle.notes.proofs.NoteLemmas.{need_never_falls}
use Rattle.notes.proofs.laws.need_never_falls.Goals as goal

pub returns : goal.returns
returns c = need_never_falls
