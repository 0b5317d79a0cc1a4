use Rattle.std.proofs.Common.{◌∙◌, ◌∷◌, ◌++◌, [], arith, map, sym}
use Rattle.std.proofs.lemmas.List.FromFn.{map-range_with_len_more}
use Rattle.bk_num.proofs.ListLemmas.{map-more}
use Rattle.page_ctx.specs.Groups.{box_winners}
use Rattle.page_ctx.specs.Winners.{applied_in, candidate_in}
use Rattle.page_ctx.proofs.TableLemmas.{both}
use Rattle.page_ctx.proofs.groups.winners_for_boxes.Goals as goal

pub loop-place-preserved : goal.loop-place-preserved
loop-place-preserved c =
    map-more (map candidate_in) c.loop-place.boxes c.push.new.self _ c.in_ok-push.ensures.ok
    ∙ both (λ l x. l ++ x ∷ []) c.loop-place.invariant c.in_ok-winners_for_box.ensures
    ∙ sym (map-range_with_len_more (box_winners (map applied_in c.args.rules.now)) 0 c.loop-place.place c.loop-place.place (omega arith))
