use Rattle.std.proofs.Common.{◌≡◌, drop, map}
use Rattle.std.specs.Prelude.{fold}
use Rattle.std.specs.String.{string_bytes}
use Rattle.bk_num.specs.Names.{with_name}
use Rattle.page_ctx.specs.Strings.{running_in}
use Rattle.page_ctx.proofs.strings_asked.push_parts.Given as goal

abbrev pub invariant-loop-part : goal.invariant-loop-part
invariant-loop-part l = fold with_name (map (λ k. string_bytes k) l.asked.keys) (running_in (drop l.part-index l.parts)) ≡ fold with_name (map (λ k. string_bytes k) l.initial.asked.keys) (running_in l.parts)
