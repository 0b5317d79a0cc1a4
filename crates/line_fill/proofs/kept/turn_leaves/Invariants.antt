use Rattle.line_fill.specs.KeptSteps.{AreTurnedTo}
use Rattle.line_fill.proofs.kept.turn_leaves.Given as goal

abbrev pub invariant-loop-at : goal.invariant-loop-at
invariant-loop-at l = AreTurnedTo l.at l.initial.leaves.items l.leaves.items
