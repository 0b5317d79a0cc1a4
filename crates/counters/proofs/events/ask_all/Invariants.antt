use Rattle.std.proofs.Common.{◌≡◌}
use Rattle.counters.proofs.events.ask_all.Given as goal

abbrev pub invariant-loop-part : goal.invariant-loop-part
invariant-loop-part l = l.into ≡ l.initial.into
