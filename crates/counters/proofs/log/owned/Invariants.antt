use Rattle.std.proofs.Common.{◌≡◌, take}
use Rattle.counters.specs.Log.{changes_in}
use Rattle.counters.proofs.log.owned.Given as goal

abbrev pub invariant-loop-change : goal.invariant-loop-change
invariant-loop-change l = l.list ≡ changes_in (take l.change-index l.changes)
