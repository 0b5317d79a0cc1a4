use Rattle.boxes.proofs.TreeFacts.{around_there}
use Rattle.std.proofs.Common.{sym, ◌∙◌}
use Rattle.seams.proofs.level.least_lines.Goals as goal

pub props-props-requires : goal.props-props-requires
props-props-requires c = around_there c.args.tree.now c.count-count.ensures.tree c.args.event c.in-Some.index c.requires (sym c.around.ensures ∙ c.in-Some.is)
