use Rattle.std.proofs.Common.{◌≤◌, ◌-◌}
use Rattle.line_fill.specs.Paragraphs.{IsPassed}
use Rattle.line_fill.proofs.stops.pass_to.Given as goal

abbrev pub invariant-loop-at : goal.invariant-loop-at
invariant-loop-at l = record {
  most : l.at ≤ l.to;
  passed : IsPassed l.faces l.leaf l.from l.at l.line_width;
}

abbrev pub decreases-loop-at : goal.decreases-loop-at
decreases-loop-at l = l.to - l.at
