use Rattle.line_fill.proofs.PassLemmas.{keep_what_was_asked}
use Rattle.line_fill.proofs.laws.asked_lines_are_kept.Goals as goal

pub returns : goal.returns
returns c = keep_what_was_asked
