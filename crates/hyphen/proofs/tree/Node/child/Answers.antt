use Rattle.std.proofs.Common.{◌∙◌, ap, sym}
use Rattle.hyphen.specs.declared.tree.Node.{Node}
use Rattle.hyphen.specs.Tree.{values_in}
use Rattle.hyphen.proofs.TreeLemmas.{node_absent, node_given}
use Rattle.hyphen.proofs.tree.Node.child.Goals as goal

pub returns-in-Some : goal.returns-in-Some
returns-in-Some c = λ e q k. ap (λ (n : Node). values_in n e q k) c.deref.ensures ∙ sym (node_given c.args.self.now c.in-Some.node.now c.args.letter c.in-Some.ensures.value e q k)

pub returns-in-None : goal.returns-in-None
returns-in-None c = node_absent c.args.self.now c.args.letter c.in-None.ensures.value
