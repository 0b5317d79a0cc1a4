use Rattle.std.proofs.Common.{◌≡◌, drop, map}
use Rattle.std.specs.Prelude.{fold}
use Rattle.std.specs.String.{string_bytes}
use Rattle.bk_num.specs.Names.{with_name}
use Rattle.page_ctx.specs.Strings.{running_longs}
use Rattle.page_ctx.proofs.strings_asked.push_longs.Given as goal

abbrev pub invariant-loop-long : goal.invariant-loop-long
invariant-loop-long l = fold with_name (map (λ k. string_bytes k) l.asked.keys) (running_longs (drop l.long-index l.longs)) ≡ fold with_name (map (λ k. string_bytes k) l.initial.asked.keys) (running_longs l.longs)
