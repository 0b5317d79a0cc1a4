use Rattle.line_fill.proofs.PassLemmas.{none_stands}
use Rattle.line_fill.proofs.kept.Kept.new.Goals as goal

pub returns-clause-kept : goal.returns-clause-kept
returns-clause-kept c = λ faces a line leaf h e. absurd (none_stands c.new.result.items c.new.ensures.items a line h)

pub returns-clause-none : goal.returns-clause-none
returns-clause-none c = λ a h. none_stands c.new.result.items c.new.ensures.items a h.0 h.1.stands
