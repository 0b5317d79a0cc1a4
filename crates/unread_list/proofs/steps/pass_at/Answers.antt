use Rattle.std.proofs.Common.{arith}
use Rattle.std.proofs.lemmas.Grind.{common_steps}
use Rattle.css_rules.specs.Sheet.{at_after, at_front, at_kind}
use Rattle.unread_list.proofs.steps.pass_at.Goals as goal

pub returns-in-Media-clause-step : goal.returns-in-Media-clause-step
unfolding at_after at_front at_kind
returns-in-Media-clause-step c = grind (arith, common_steps)

pub returns-in-Page-clause-step : goal.returns-in-Page-clause-step
unfolding at_after at_front at_kind
returns-in-Page-clause-step c = grind (arith, common_steps)

pub returns-in-Other-clause-step : goal.returns-in-Other-clause-step
unfolding at_after at_front at_kind
returns-in-Other-clause-step c = grind (arith, common_steps)
