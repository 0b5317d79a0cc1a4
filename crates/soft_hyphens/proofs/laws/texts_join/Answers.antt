use Rattle.soft_hyphens.proofs.LawLemmas.{texts-join}
use Rattle.soft_hyphens.proofs.laws.texts_join.Goals as goal

pub returns : goal.returns
returns c = texts-join
