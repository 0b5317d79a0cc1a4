use Rattle.std.proofs.Common.{◌≡◌, length, take}
use Rattle.counters.specs.Log.{changes_in}
use Rattle.counters.proofs.log.is_same.Given as goal

abbrev pub invariant-loop-i : goal.invariant-loop-i
invariant-loop-i l = (take l.i l.list ≡ changes_in (take l.i l.changes)) × (length l.list ≡ length l.changes)
