use Rattle.std.proofs.Common.{◌≡◌, ◌++◌, drop}
use Rattle.named_lists.specs.Lists.{of_name}
use Rattle.counters.specs.Document.{named}
use Rattle.counters.specs.Log.{events_at}
use Rattle.counters.proofs.at.push_named.Given as goal

abbrev pub invariant-loop-change : goal.invariant-loop-change
invariant-loop-change l = (l.into.items ++ of_name (named l.row.at l.row.end (drop l.change-index l.change-items)) l.name ≡ l.initial.into.items ++ of_name (events_at l.row) l.name) × (l.change-items ≡ l.row.changes.value)
