use Rattle.std.proofs.Common.{◌∙◌, ap}
use Rattle.hyphen.specs.declared.tree.Node.{Node}
use Rattle.hyphen.specs.Tree.{values_in}
use Rattle.hyphen.proofs.RollLemmas.{rolled_given, rolled_others, rolled_own}
use Rattle.hyphen.proofs.TreeLemmas.{apart_keys}
use Rattle.hyphen.proofs.tree.Node.give.Goals as goal

pub returns-clause-own : goal.returns-clause-own
returns-clause-own c = rolled_own c.args.self.now c.insert.new.self

pub returns-clause-others : goal.returns-clause-others
returns-clause-others c = λ d e q k apart. rolled_others c.args.self.now c.insert.new.self d (c.in_ok-insert.ensures.updates.2 d (apart_keys c.args.letter d apart)) e q k

pub returns-clause-node : goal.returns-clause-node
returns-clause-node c = λ e q k. rolled_given c.args.self.now c.insert.new.self c.in_ok-new.field-0 c.args.letter c.in_ok-insert.ensures.updates.1 e q k ∙ ap (λ (n : Node). values_in n e q k) c.in_ok-new.ensures.ok
