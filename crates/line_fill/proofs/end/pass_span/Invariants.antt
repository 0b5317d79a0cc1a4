use Rattle.std.proofs.Common.{◌-◌, ◌≤◌}
use Rattle.line_fill.specs.Fill.{IsFilled}
use Rattle.line_fill.proofs.LineLemmas.{IsNext}
use Rattle.line_fill.proofs.end.pass_span.Given as goal

abbrev pub invariant-loop-at : goal.invariant-loop-at
invariant-loop-at l = record {
  filled : IsFilled l.faces l.leaf l.room.from l.room.units l.at l.line_width l.found;
  low : l.span.from ≤ l.at;
  high : l.at ≤ l.end;
  next : IsNext l.places l.at l.next;
  next_grapheme : IsNext l.graphemes l.at l.next_grapheme;
}

abbrev pub decreases-loop-at : goal.decreases-loop-at
decreases-loop-at l = l.end - l.at
