use Rattle.box_gen.proofs.OrderLemmas.{starts-never-fall}
use Rattle.box_gen.proofs.laws.starts_never_fall.Goals as goal

pub returns : goal.returns
returns c = starts-never-fall
