use Rattle.std.proofs.Common.{◌≡◌, map}
use Rattle.std.specs.List.{range_with_len}
use Rattle.page_ctx.specs.Groups.{box_winners}
use Rattle.page_ctx.specs.Winners.{applied_in, candidate_in}
use Rattle.page_ctx.proofs.groups.winners_for_boxes.Given as goal

abbrev pub invariant-loop-place : goal.invariant-loop-place
invariant-loop-place l = map (map candidate_in) l.boxes ≡ map (box_winners (map applied_in l.rules)) (range_with_len 0 l.place)
