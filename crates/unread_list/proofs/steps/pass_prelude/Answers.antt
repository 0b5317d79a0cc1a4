use Rattle.std.proofs.Common.{arith}
use Rattle.std.proofs.lemmas.Grind.{common_steps}
use Rattle.css_rules.specs.Sheet.{prelude_at, prelude_end}
use Rattle.unread_list.specs.Parts.{prelude_step}
use Rattle.unread_list.proofs.steps.pass_prelude.Goals as goal

pub returns-clause-step : goal.returns-clause-step
unfolding prelude_at prelude_end prelude_step
returns-clause-step c = grind (arith, common_steps)
