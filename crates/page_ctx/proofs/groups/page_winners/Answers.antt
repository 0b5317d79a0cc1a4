use Rattle.std.proofs.Common.{◌≡◌, ◌∙◌, None, ap, map}
use Rattle.std.specs.List.{range_with_len}
use Rattle.css_rules.specs.MarginBoxes.{margin_box_count}
use Rattle.page_ctx.specs.Groups.{all_own, box_winners, winners_of}
use Rattle.page_ctx.specs.Winners.{applied_in, page_declared}
use Rattle.page_ctx.proofs.TableLemmas.{both}
use Rattle.page_ctx.proofs.groups.page_winners.Goals as goal

pub returns : goal.returns
returns c =
    let applied : map applied_in c.in_ok-applied.applied.items ≡ all_own None c.args.classes c.args.index.now.rules.now =
    c.in_ok-applied.ensures ∙ both (λ o r. all_own o c.args.classes r) c.unnamed.ensures.asked c.unnamed.ensures.rules in
    record {
      page = c.in_ok-winners_for_page.ensures ∙ ap (λ r. winners_of (page_declared r)) (ap (map applied_in) c.deref.ensures.value ∙ applied);
      boxes = c.in_ok-winners_for_boxes.ensures ∙ ap (λ r. map (box_winners r) (range_with_len 0 margin_box_count)) (ap (map applied_in) c.deref-2.ensures.value ∙ applied);
    }
