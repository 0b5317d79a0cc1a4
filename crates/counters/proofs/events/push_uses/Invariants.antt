use Rattle.std.proofs.Common.{◌≡◌, ◌++◌, drop}
use Rattle.counters.specs.Log.{changes_in}
use Rattle.counters.specs.Document.{not_page, uses_in}
use Rattle.counters.proofs.events.push_uses.Given as goal

abbrev pub invariant-loop-part : goal.invariant-loop-part
invariant-loop-part l = (changes_in l.changes.items ++ not_page (uses_in (drop l.part-index l.part-items)) ≡ changes_in l.initial.changes.items ++ not_page (uses_in l.content)) × (l.part-items ≡ l.content)
