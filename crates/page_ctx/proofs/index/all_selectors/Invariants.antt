use Rattle.std.proofs.Common.{◌≡◌, ◌++◌, drop, map}
use Rattle.page_ctx.specs.Index.{selector_in, selectors_from}
use Rattle.page_ctx.proofs.index.all_selectors.Given as goal

abbrev pub invariant-loop-number : goal.invariant-loop-number
invariant-loop-number l = map selector_in l.all.items ++ selectors_from l.number (drop l.number l.rules) ≡ selectors_from 0 l.rules
