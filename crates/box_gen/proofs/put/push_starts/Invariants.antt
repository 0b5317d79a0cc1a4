use Rattle.std.proofs.Common.{◌≡◌, ◌++◌, drop}
use Rattle.box_gen.specs.Flow.{starts_by}
use Rattle.box_gen.proofs.put.push_starts.Given as goal

abbrev pub invariant-loop-start : goal.invariant-loop-start
invariant-loop-start l = l.starts.items ++ starts_by l.event (drop l.start-index l.of) ≡ l.initial.starts.items ++ starts_by l.event l.of
