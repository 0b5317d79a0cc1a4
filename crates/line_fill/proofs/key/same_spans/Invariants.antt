use Rattle.std.proofs.Common.{◌≡◌, length, take}
use Rattle.line_fill.proofs.key.same_spans.Given as goal

abbrev pub invariant-loop-k : goal.invariant-loop-k
invariant-loop-k l = (length l.a ≡ length l.b) × (take l.k l.a ≡ take l.k l.b)
