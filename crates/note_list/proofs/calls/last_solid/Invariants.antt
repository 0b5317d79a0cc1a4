use Rattle.std.proofs.Common.{◌≡◌, ◌≤◌, ◌-◌, None, Some, IfSome, length}
use Rattle.seams.specs.Runs.{solid_before}
use Rattle.note_list.proofs.calls.last_solid.Given as goal

abbrev pub invariant-loop-event : goal.invariant-loop-event
invariant-loop-event l = record {
  within : l.at ≤ l.to;
  some : IfSome l.last (λ k. solid_before l.tree l.at ≡ Some k);
  none : l.last ≡ None → solid_before l.tree l.at ≡ solid_before l.tree l.from;
}

abbrev pub decreases-loop-event : goal.decreases-loop-event
decreases-loop-event l = length l.tree.events - l.at
