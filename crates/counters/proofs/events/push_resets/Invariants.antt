use Rattle.std.proofs.Common.{◌≡◌, ◌++◌, drop}
use Rattle.counters.specs.Log.{changes_in}
use Rattle.counters.specs.Document.{not_page, resets_in}
use Rattle.counters.proofs.events.push_resets.Given as goal

abbrev pub invariant-loop-entry : goal.invariant-loop-entry
invariant-loop-entry l = (changes_in l.changes.items ++ not_page (resets_in (drop l.entry-index l.entry-items)) ≡ not_page (resets_in l.list)) × (l.entry-items ≡ l.list)
