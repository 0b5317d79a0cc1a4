use Rattle.std.proofs.Common.{◌∙◌, ap, sym, false}
use Rattle.boxes.specs.Frames.{meets_side, side_of}
use Rattle.columns.specs.Steps.{second_least, second_meets}
use Rattle.columns.proofs.columns.ColumnsFrames.empty_before.Goals as goal

pub returns-else-meets_side-clause-meets : goal.returns-else-meets_side-clause-meets
returns-else-meets_side-clause-meets c = second_meets _ _ _ c.args.demand c.args.self.now.good.per.low c.left_on_page-left.ensures
    (sym (ap (λ s. meets_side s c.args.demand) (c.side_of.ensures ∙ ap side_of c.page_of-page.ensures.page)) ∙ (sym c.meets_side.ensures ∙ c.if-meets_side.false))

pub returns-else-meets_side-clause-least : goal.returns-else-meets_side-clause-least
returns-else-meets_side-clause-least c = second_least _ _ _ c.args.demand c.args.self.now.good.per.low c.left_on_page-left.ensures
    (sym (ap (λ s. meets_side s c.args.demand) (c.side_of.ensures ∙ ap side_of c.page_of-page.ensures.page)) ∙ (sym c.meets_side.ensures ∙ c.if-meets_side.false))
