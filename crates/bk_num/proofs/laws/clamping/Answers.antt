use Rattle.bk_num.proofs.UnitLemmas.{clamped-order, clamped-small, clamped-bounds}
use Rattle.bk_num.proofs.laws.clamping.Goals as goal

pub returns-clause-order : goal.returns-clause-order
returns-clause-order c = clamped-order

pub returns-clause-small : goal.returns-clause-small
returns-clause-small c = clamped-small

pub returns-clause-bounds : goal.returns-clause-bounds
returns-clause-bounds c = clamped-bounds
