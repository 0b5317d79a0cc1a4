use Rattle.std.proofs.Common.{◌≡◌, ◌++◌, drop}
use Rattle.std.specs.List.{flat_map}
use Rattle.counters.specs.Log.{changes_in}
use Rattle.counters.specs.Document.{not_page, uses_in}
use Rattle.counters.proofs.events.string_uses.Given as goal

abbrev pub invariant-loop-entry : goal.invariant-loop-entry
invariant-loop-entry l = (changes_in l.changes.items ++ not_page (flat_map (λ e. uses_in e.1) (drop l.entry-index l.entry-items)) ≡ not_page (flat_map (λ e. uses_in e.1) l.sets)) × (l.entry-items ≡ l.sets) × (l.into ≡ l.initial.into)
