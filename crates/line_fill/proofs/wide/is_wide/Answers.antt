use Rattle.std.proofs.Common.{sym, ◌∙◌}
use Rattle.line_fill.proofs.CharLemmas.{wide-none, wide-some}
use Rattle.line_fill.proofs.wide.is_wide.Goals as goal

pub returns-in-None : goal.returns-in-None
returns-in-None c = wide-none c.args.text.now c.args.at (sym c.in-None.ensures)

pub returns-in-Some : goal.returns-in-Some
returns-in-Some c = c.has_width.ensures ∙ wide-some c.args.text.now c.args.at c.in-Some.c (sym c.in-Some.ensures)
