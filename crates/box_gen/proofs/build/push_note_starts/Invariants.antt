use Rattle.std.proofs.Common.{◌≡◌, ◌++◌, drop}
use Rattle.box_gen.specs.Flow.{starts_in_note}
use Rattle.box_gen.proofs.build.push_note_starts.Given as goal

abbrev pub invariant-loop-start : goal.invariant-loop-start
invariant-loop-start l = l.starts.items ++ starts_in_note l.number (drop l.start-index l.of) ≡ l.initial.starts.items ++ starts_in_note l.number l.of
