use Rattle.std.proofs.Common.{◌≡◌, [], drop, map}
use Rattle.std.specs.Prelude.{fold}
use Rattle.std.specs.String.{string_bytes}
use Rattle.bk_num.specs.Names.{with_name}
use Rattle.page_ctx.specs.Strings.{all_running}
use Rattle.page_ctx.proofs.strings_asked.asked_strings.Given as goal

abbrev pub invariant-loop-rule : goal.invariant-loop-rule
invariant-loop-rule l = fold with_name (map (λ k. string_bytes k) l.asked.keys) (all_running (drop l.rule-index l.rules)) ≡ fold with_name [] (all_running l.rules)
