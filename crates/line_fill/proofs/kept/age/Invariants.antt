use Rattle.std.proofs.Common.{◌≡◌, ℕ, ◌<◌, ◌≤◌, get_or, length}
use Rattle.line_fill.specs.KeptLines.{before_of}
use Rattle.line_fill.specs.declared.lines.KeptLine.{KeptLine}
use Rattle.line_fill.proofs.kept.age.Given as goal

abbrev pub invariant-loop-kept : goal.invariant-loop-kept
invariant-loop-kept l = ((k : ℕ) (d : KeptLine) → k < l.kept-index → get_or l.lines k d ≡ before_of (get_or l.initial.lines k d)) × ((k : ℕ) (d : KeptLine) → l.kept-index ≤ k → get_or l.lines k d ≡ get_or l.initial.lines k d) × (length l.lines ≡ length l.initial.lines)
