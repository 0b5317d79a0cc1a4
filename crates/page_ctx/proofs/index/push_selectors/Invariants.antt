use Rattle.std.proofs.Common.{◌≡◌, ◌++◌, drop, map}
use Rattle.page_ctx.specs.Index.{of_rule, selector_in}
use Rattle.page_ctx.proofs.index.push_selectors.Given as goal

abbrev pub invariant-loop-selector : goal.invariant-loop-selector
invariant-loop-selector l = map selector_in l.all.items ++ map (of_rule l.number l.rule) (drop l.selector-index l.selector-items) ≡ map selector_in l.fn.all.items ++ map (of_rule l.number l.rule) l.selector-items
