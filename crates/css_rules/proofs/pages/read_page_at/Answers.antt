use Rattle.std.proofs.Common.{arith}
use Rattle.std.proofs.lemmas.Grind.{common_steps}
use Rattle.css_rules.specs.Pages.{at_end, at_prelude, is_margin_box, past_end}
use Rattle.css_rules.proofs.PartLemmas.{gaps_are}
use Rattle.css_rules.proofs.pages.read_page_at.Goals as goal

pub returns-then-end-ne123-clause-part : goal.returns-then-end-ne123-clause-part
unfolding at_end at_prelude is_margin_box past_end
returns-then-end-ne123-clause-part c = grind (arith, common_steps, gaps_are)

pub returns-clause-part : goal.returns-clause-part
unfolding at_end at_prelude is_margin_box past_end
returns-clause-part c = grind (arith, common_steps, gaps_are)
