use Rattle.std.proofs.Common.{arith, string_bytes}
use Rattle.counters.specs.At.{counter_values}
use Rattle.gen_text.specs.Content.{place_of}
use Rattle.gen_text.proofs.ContentLemmas.{content_turn}
use Rattle.gen_text.proofs.eval.push_parts.Goals as goal

pub loop-part-preserved : goal.loop-part-preserved
loop-part-preserved c = content_turn (place_of c.args.dom.now c.args.styles.now c.args.node.0 c.args.pseudo (counter_values c.args.counters.now) c.args.table.now) c.args.parts.now c.loop-part.part-index c.part-item.result (string_bytes c.args.into.now) (string_bytes c.loop-part.into) (string_bytes c.push_part.new.into) (omega arith) c.part-item.is c.loop-part.invariant c.in_ok-push_part.ensures.ok
