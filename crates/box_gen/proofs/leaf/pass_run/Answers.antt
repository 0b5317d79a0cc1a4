use Rattle.std.proofs.Common.{◌<◌, ◌≡◌, IfErr, List, length, subst}
use Rattle.box_gen.specs.declared.inline.BuildErr.TheVariants as answer
use Rattle.box_gen.specs.Items.{InlineItem}
use Rattle.box_gen.specs.Runs.{text_of}
use Rattle.box_gen.proofs.leaf.pass_run.Goals as goal

pub returns-clause-cause : goal.returns-clause-cause
returns-clause-cause c = λ points.
    subst (λ (l : List InlineItem). IfErr c.pass_entries.result (λ e. e ≡ answer.Text → c.args.most < length (text_of points l))) c.parts.ensures.items (c.pass_entries.ensures.cause points)
