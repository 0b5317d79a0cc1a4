use Rattle.std.proofs.Common.{map, arith}
use Rattle.page_ctx.specs.Groups.{declared_at}
use Rattle.page_ctx.specs.Winners.{applied_in, candidate_in}
use Rattle.page_ctx.specs.Settings.{setting_in}
use Rattle.page_ctx.specs.Margins.{box_in, style_among}
use Rattle.page_ctx.proofs.MarginLemmas.{boxes_more}
use Rattle.page_ctx.proofs.margins.boxes_by.Goals as goal

pub loop-place-preserved : goal.loop-place-preserved
loop-place-preserved c =
    boxes_more (style_among (setting_in c.args.page.now) (declared_at (map (map candidate_in) c.args.kept.now) (map applied_in c.args.rules.now))) (map box_in c.loop-place.boxes) (map box_in c.push_place.new.boxes) _ c.loop-place.place (omega (arith, c.loop-place-test.true))
    c.in_ok-push_place.ensures c.loop-place.invariant
