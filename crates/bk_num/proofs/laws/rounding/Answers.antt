use Rattle.bk_num.proofs.UnitLemmas.{rounded-order}
use Rattle.bk_num.proofs.laws.rounding.Goals as goal

pub returns : goal.returns
returns c = rounded-order
