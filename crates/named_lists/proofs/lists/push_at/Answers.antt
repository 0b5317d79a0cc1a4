use Rattle.std.proofs.Common.{◌≡◌, ◌∙◌, Some, slice_get, slice_set, ap, sym}
use Rattle.std.proofs.lemmas.Option.{slice_get-get_or}
use Rattle.std.proofs.lemmas.Result.{on_ok_weaker}
use Rattle.named_lists.proofs.ListLemmas.{item-set}
use Rattle.named_lists.proofs.lists.push_at.Goals as goal

pub returns-clause-ok : goal.returns-clause-ok
returns-clause-ok g c =
    let lists = c.args.lists.now.items in
    let at : slice_get lists c.args.index ≡ Some c.index_mut-list.result.now = slice_get-get_or lists c.args.index c.index_mut-list.result.now c.requires ∙ ap (λ x. Some x) (sym c.index_mut-list.ensures.value) in
    on_ok_weaker c.push.result (λ e. ap (λ x. slice_set lists c.args.index x) e ∙ item-set lists c.args.index c.index_mut-list.result.now c.args.item at) c.push.ensures.ok
