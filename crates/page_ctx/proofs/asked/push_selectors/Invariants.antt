use Rattle.std.proofs.Common.{◌≡◌, drop, map}
use Rattle.std.specs.Prelude.{fold}
use Rattle.std.specs.String.{string_bytes}
use Rattle.bk_num.specs.Names.{with_name}
use Rattle.page_ctx.specs.Selectors.{asked_in}
use Rattle.page_ctx.proofs.asked.push_selectors.Given as goal

abbrev pub invariant-loop-selector : goal.invariant-loop-selector
invariant-loop-selector l = fold with_name (map (λ k. string_bytes k) l.asked.keys) (asked_in (drop l.selector-index l.selectors)) ≡ fold with_name (map (λ k. string_bytes k) l.initial.asked.keys) (asked_in l.selectors)
