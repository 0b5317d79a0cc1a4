use Rattle.selectors.proofs.WalkLemmas.{all_within, parent_in}
use Rattle.selectors.proofs.walk.parent.Goals as goal

pub returns-clause-below : goal.returns-clause-below
returns-clause-below c = all_within c.parent.result _ c.args.node.0 c.parent.ensures (λ p e. parent_in c.args.dom.now c.args.node.0 p c.len-len.ensures.tree e)
