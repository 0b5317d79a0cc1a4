use Rattle.std.proofs.Common.{take, string_bytes}
use Rattle.counters.specs.At.{counter_values}
use Rattle.gen_text.specs.Content.{PrintsParts, place_of}
use Rattle.gen_text.proofs.eval.push_parts.Given as goal

abbrev pub invariant-loop-part : goal.invariant-loop-part
invariant-loop-part l = PrintsParts (place_of l.dom l.styles l.node.0 l.pseudo (counter_values l.counters) l.table) (take l.part-index l.parts) (string_bytes l.fn.into) (string_bytes l.into)
