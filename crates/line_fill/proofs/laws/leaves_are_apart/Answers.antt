use Rattle.line_fill.proofs.PassLemmas.{leaves_are_apart}
use Rattle.line_fill.proofs.laws.leaves_are_apart.Goals as goal

pub returns : goal.returns
returns c = leaves_are_apart
