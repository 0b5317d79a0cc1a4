use Rattle.std.proofs.Common.{◌≡◌, ◌++◌, ◌∷◌, [], List, length, ◌+◌, subst, sym, ap, ◌∙◌, length-append}
use Rattle.boxes.specs.declared.page.Page.{Page}
use Rattle.boxes.specs.declared.place.Position.{Position}
use Rattle.page_seq.specs.Places.{NeverFall, has_end_after}
use Rattle.page_seq.proofs.FinderLemmas.{NoneAfter, first_more, never_fall_more, none_after_more, reach_more}
use Rattle.page_seq.proofs.finder.ends_of.Goals as goal

pub loop-page-preserved : goal.loop-page-preserved
loop-page-preserved c =
    let i = c.loop-page.page-index in
    let page : Page = c.page-item.result in
    let end : Position = c.loop-page.end in
    let next : Position = c.furthest-end.result in
    let ends : List Position = c.loop-page.ends.items in
    let kept = c.loop-page.invariant in
    let further = c.furthest-end.ensures in
    let pushed : c.push.new.self.items ≡ ends ++ next ∷ [] = c.in_ok-push.ensures.items in
    record {
      count = ap length pushed ∙ (length-append ends (next ∷ []) ∙ ap (λ n. n + 1) kept.count);
      same = λ at. rw pushed (first_more at end next ends c.args.pages.now i page c.loop-page-test.true c.page-item.is kept.count (kept.same at) (kept.reach at) (further at));
      reach = λ at. reach_more at end next c.args.pages.now i page c.loop-page-test.true c.page-item.is (kept.reach at) (further at);
      none = subst (NoneAfter next) (sym pushed) (none_after_more end next (has_end_after next page) ends kept.none (further next));
      order = subst NeverFall (sym pushed) (never_fall_more end next (has_end_after next page) ends kept.order kept.none (further next));
    }
