use Rattle.line_fill.specs.Kept.{AreKept}
use Rattle.flow_rows.proofs.lines.ends_by.Given as goal

abbrev pub invariant-loop-number : goal.invariant-loop-number
invariant-loop-number g l = record {
  kept : AreKept l.faces l.kept;
}
