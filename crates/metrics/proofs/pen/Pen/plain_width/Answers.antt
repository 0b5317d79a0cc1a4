use Rattle.std.proofs.Common.{None, sym, ap, ◌∙◌}
use Rattle.metrics.specs.Widths.{char_width, width_after}
use Rattle.metrics.proofs.pen.Pen.plain_width.Goals as goal

pub returns-in-Some-clause-value : goal.returns-in-Some-clause-value
unfolding char_width
returns-in-Some-clause-value c = c.char_width.ensures.value ∙ ap (width_after c.args.self.now None) (sym c.in-Some.is ∙ c.begun_at.ensures)
