use Rattle.std.proofs.Common.{◌≡◌, ◌++◌}
use Rattle.box_gen.specs.Flow.{assigns_at}
use Rattle.box_gen.proofs.build.push_assigned.Given as goal

abbrev pub invariant-loop-name : goal.invariant-loop-name
invariant-loop-name l = l.strings.items ++ assigns_at l.at l.name-iterator.rest.items ≡ l.initial.strings.items ++ assigns_at l.at l.fn.assigned
