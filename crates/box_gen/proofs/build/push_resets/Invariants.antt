use Rattle.std.proofs.Common.{◌≡◌, ◌++◌, drop}
use Rattle.box_gen.specs.Flow.{page_values, resets_at}
use Rattle.box_gen.proofs.build.push_resets.Given as goal

abbrev pub invariant-loop-counter : goal.invariant-loop-counter
invariant-loop-counter l = l.resets.items ++ resets_at l.at (page_values (drop l.counter-index l.counters)) ≡ l.initial.resets.items ++ resets_at l.at (page_values l.counters)
