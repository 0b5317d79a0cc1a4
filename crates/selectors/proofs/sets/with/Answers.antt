use Rattle.selectors.proofs.SetLemmas.{has_with, has_other}
use Rattle.selectors.proofs.sets.with.Goals as goal

pub returns-clause-same : goal.returns-clause-same
returns-clause-same c = has_with c.args.set c.args.k c.requires

pub returns-clause-other : goal.returns-clause-other
returns-clause-other c = λ j other. has_other c.args.set c.args.k j c.requires other
