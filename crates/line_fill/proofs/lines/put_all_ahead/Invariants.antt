use Rattle.std.specs.List.{Contains}
use Rattle.line_fill.specs.KeptLines.{PutsAhead}
use Rattle.line_fill.proofs.lines.put_all_ahead.Given as goal

abbrev pub invariant-loop-k : goal.invariant-loop-k
invariant-loop-k l = PutsAhead (λ x. Contains l.ahead x) l.initial.lines.items l.lines.items
