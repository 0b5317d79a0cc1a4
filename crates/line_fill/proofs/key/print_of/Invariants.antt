use Rattle.std.proofs.Common.{◌≡◌, drop}
use Rattle.line_fill.specs.Keys.{fed_spans}
use Rattle.line_fill.proofs.key.print_of.Given as goal

abbrev pub invariant-loop-span : goal.invariant-loop-span
invariant-loop-span l = (fed_spans l.initial.hasher l.span-items ≡ fed_spans l.hasher (drop l.span-index l.span-items)) × (l.span-items ≡ l.leaf.spans)
