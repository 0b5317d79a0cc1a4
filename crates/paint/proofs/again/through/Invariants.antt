use Rattle.paint.proofs.ThroughLemmas.{IsLeft}
use Rattle.paint.proofs.again.through.Given as goal

abbrev pub invariant-loop-at : goal.invariant-loop-at
invariant-loop-at l = IsLeft l.tree l.parts l.from l.at l.inner
