use Rattle.std.proofs.Common.{◌≡◌, ◌++◌, drop}
use Rattle.named_lists.specs.Lists.{of_name}
use Rattle.counters.specs.Log.{events_in}
use Rattle.counters.proofs.at.named_events.Given as goal

abbrev pub invariant-loop-row : goal.invariant-loop-row
invariant-loop-row l = l.events.items ++ of_name (events_in (drop l.row-index l.rows)) l.name ≡ of_name (events_in l.rows) l.name
