use Rattle.std.proofs.Common.{◌≡◌, ◌≤◌}
use Rattle.seams.specs.Runs.{solid_before}
use Rattle.note_list.proofs.calls.solid_before.Given as goal

abbrev pub invariant-loop-from : goal.invariant-loop-from
invariant-loop-from l = record {
  within : l.from ≤ l.end;
  none : solid_before l.tree l.end ≡ solid_before l.tree l.from;
}

abbrev pub decreases-loop-from : goal.decreases-loop-from
decreases-loop-from l = l.from
