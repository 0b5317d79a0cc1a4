use Rattle.std.proofs.Common.{◌-◌, ◌≡◌, ◌≤◌}
use Rattle.metrics.specs.Widths.{last_from}
use Rattle.metrics.proofs.pen.last_before.Given as goal

abbrev pub invariant-loop-next : goal.invariant-loop-next
invariant-loop-next l = record {
  within : l.next ≤ l.at;
  same : last_from l.text l.begin (l.at - l.begin) ≡ last_from l.text l.begin (l.next - l.begin);
}

abbrev pub decreases-loop-next : goal.decreases-loop-next
decreases-loop-next l = l.next - l.begin
