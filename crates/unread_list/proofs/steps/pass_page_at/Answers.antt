use Rattle.std.proofs.Common.{arith}
use Rattle.std.proofs.lemmas.Grind.{common_steps}
use Rattle.css_rules.specs.Pages.{at_end, at_prelude, is_margin_box}
use Rattle.unread_list.specs.Parts.{page_at_step}
use Rattle.unread_list.proofs.steps.pass_page_at.Goals as goal

pub returns-then-is_margin_box-clause-step : goal.returns-then-is_margin_box-clause-step
unfolding at_end at_prelude is_margin_box page_at_step
returns-then-is_margin_box-clause-step c = grind (arith, common_steps)

pub returns-clause-step : goal.returns-clause-step
unfolding at_end at_prelude is_margin_box page_at_step
returns-clause-step c = grind (arith, common_steps)
