use Rattle.std.proofs.Common.{◌≡◌, ◌++◌, drop}
use Rattle.named_lists.specs.Lists.{with_items}
use Rattle.page_ctx.specs.Index.{by_names, unnamed}
use Rattle.page_ctx.proofs.index.put_all.Given as goal

abbrev pub invariant-loop-entry : goal.invariant-loop-entry
invariant-loop-entry l =
    (l.index.rules ≡ l.fn.index.rules)
    × (with_items l.index.named (by_names (drop l.entry-index l.all)) ≡ with_items l.fn.index.named (by_names l.all))
    × (l.index.every ++ unnamed (drop l.entry-index l.all) ≡ l.fn.index.every ++ unnamed l.all)
