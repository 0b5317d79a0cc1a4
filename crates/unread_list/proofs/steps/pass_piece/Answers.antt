use Rattle.std.proofs.Common.{arith}
use Rattle.std.proofs.lemmas.Grind.{common_steps}
use Rattle.css_rules.specs.Pages.{piece_at, piece_end}
use Rattle.unread_list.specs.Parts.{piece_step}
use Rattle.unread_list.proofs.steps.pass_piece.Goals as goal

pub returns-clause-step : goal.returns-clause-step
unfolding piece_at piece_end piece_step
returns-clause-step c = grind (arith, common_steps)
