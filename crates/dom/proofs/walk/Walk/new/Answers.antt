use Rattle.dom.proofs.WalkLemmas.{whole-tour}
use Rattle.dom.proofs.walk.Walk.new.Goals as goal

pub returns-clause-steps : goal.returns-clause-steps
returns-clause-steps c = rw c.root.ensures.root (whole-tour c.args.dom.now c.root.ensures.tree)
