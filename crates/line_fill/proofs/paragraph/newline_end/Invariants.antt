use Rattle.std.proofs.Common.{◌≡◌}
use Rattle.line_fill.specs.Breaks.{stop_of}
use Rattle.line_fill.proofs.paragraph.newline_end.Given as goal

abbrev pub invariant-loop-k : goal.invariant-loop-k
invariant-loop-k l = stop_of l.bytes l.from ≡ stop_of l.bytes l.k
