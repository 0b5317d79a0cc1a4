use Rattle.std.proofs.Common.{◌++◌, ◌∙◌, ap}
use Rattle.named_lists.specs.Lists.{no_lists, with_items}
use Rattle.page_ctx.specs.Index.{by_names, unnamed}
use Rattle.page_ctx.proofs.IndexLemmas.{is-index}
use Rattle.page_ctx.proofs.index.index_of.Goals as goal

pub returns-clause-index : goal.returns-clause-index
returns-clause-index c =
    is-index c.put_all.new.index c.args.rules.now c.in_ok-all.all.items (ap (λ r. r.now) c.in_ok-put_all.ensures.rules) c.in_ok-all.ensures
    (c.in_ok-put_all.ensures.named ∙ ap (λ l. with_items l (by_names c.deref.result.now)) c.new.ensures ∙ ap (λ z. with_items no_lists (by_names z)) c.deref.ensures.value)
    (c.in_ok-put_all.ensures.every ∙ ap (λ l. l ++ unnamed c.deref.result.now) c.new-2.ensures ∙ ap unnamed c.deref.ensures.value)
