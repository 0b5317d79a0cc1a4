use Rattle.std.proofs.Common.{◌≡◌, ◌≤◌}
use Rattle.unread.specs.Report.{trimmed_len}
use Rattle.unread.proofs.text.trimmed_len.Given as goal

abbrev pub invariant-loop-end : goal.invariant-loop-end
invariant-loop-end l = record {
  within : l.end ≤ l.len;
  same : trimmed_len l.text l.len ≡ trimmed_len l.text l.end;
}

abbrev pub decreases-loop-end : goal.decreases-loop-end
decreases-loop-end l = l.end
