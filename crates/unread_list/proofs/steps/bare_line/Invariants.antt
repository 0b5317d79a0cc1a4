use Rattle.std.proofs.Common.{◌≡◌, length}
use Rattle.unread_list.specs.Lines.{left_in}
use Rattle.unread_list.specs.Parts.{bare_line}
use Rattle.unread_list.proofs.steps.bare_line.Given as goal

abbrev pub invariant-gaps : goal.invariant-gaps
invariant-gaps l = record {
  same : bare_line l.start.line (left_in l.start) ≡ bare_line l.lines.line (left_in l.lines);
}

abbrev pub decreases-gaps : goal.decreases-gaps
decreases-gaps l = length l.lines.tokens.rest.now
