use Rattle.std.proofs.Common.{◌≡◌, drop, map}
use Rattle.std.specs.Prelude.{fold}
use Rattle.std.specs.String.{string_bytes}
use Rattle.bk_num.specs.Names.{with_name}
use Rattle.page_ctx.specs.Strings.{running_boxes}
use Rattle.page_ctx.proofs.strings_asked.push_boxes.Given as goal

abbrev pub invariant-loop-block : goal.invariant-loop-block
invariant-loop-block l = fold with_name (map (λ k. string_bytes k) l.asked.keys) (running_boxes (drop l.block-index l.boxes)) ≡ fold with_name (map (λ k. string_bytes k) l.initial.asked.keys) (running_boxes l.boxes)
