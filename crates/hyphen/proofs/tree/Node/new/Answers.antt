use Rattle.hyphen.proofs.RollLemmas.{rolled_empty}
use Rattle.hyphen.proofs.tree.Node.new.Goals as goal

pub returns : goal.returns
returns c = rolled_empty c.new.result c.new-2.result c.new-3.result c.new.ensures.items c.new-2.ensures.items c.new-3.ensures.empty
