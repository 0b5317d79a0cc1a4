use Rattle.notes.proofs.NoteLemmas.{must_never_falls}
use Rattle.notes.proofs.laws.must_never_falls.Goals as goal

pub returns : goal.returns
returns c = must_never_falls
