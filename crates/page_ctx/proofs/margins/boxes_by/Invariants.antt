use Rattle.std.proofs.Common.{◌≡◌, ◌++◌, ◌-◌, map}
use Rattle.std.specs.List.{filter_map, range_with_len}
use Rattle.page_ctx.specs.Groups.{declared_at}
use Rattle.page_ctx.specs.Winners.{applied_in, candidate_in}
use Rattle.page_ctx.specs.Settings.{setting_in}
use Rattle.page_ctx.specs.Margins.{box_in, box_at, boxes_by, style_among}
use Rattle.page_ctx.proofs.margins.boxes_by.Given as goal

abbrev pub invariant-loop-place : goal.invariant-loop-place
invariant-loop-place l =
    map box_in l.boxes ++ filter_map (box_at (style_among (setting_in l.page) (declared_at (map (map candidate_in) l.kept) (map applied_in l.rules)))) (range_with_len l.place (16 - l.place))
    ≡ boxes_by (style_among (setting_in l.page) (declared_at (map (map candidate_in) l.kept) (map applied_in l.rules)))
