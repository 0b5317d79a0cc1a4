use Rattle.std.proofs.Common.{◌≡◌, [], drop, map}
use Rattle.std.specs.Prelude.{fold}
use Rattle.std.specs.String.{string_bytes}
use Rattle.bk_num.specs.Names.{with_name}
use Rattle.page_ctx.specs.Selectors.{all_asked}
use Rattle.page_ctx.proofs.asked.asked_names.Given as goal

abbrev pub invariant-loop-rule : goal.invariant-loop-rule
invariant-loop-rule l = fold with_name (map (λ k. string_bytes k) l.asked.keys) (all_asked (drop l.rule-index l.rules)) ≡ fold with_name [] (all_asked l.rules)
