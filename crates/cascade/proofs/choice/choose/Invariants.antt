use Rattle.std.proofs.Common.{map, take}
use Rattle.cascade.specs.Candidates.{applied_in, DeclaredBy}
use Rattle.cascade.specs.Choice.{views}
use Rattle.cascade.proofs.WinnerLemmas.{AllBest}
use Rattle.cascade.proofs.choice.choose.Given as goal

abbrev pub invariant-loop-rule : goal.invariant-loop-rule
invariant-loop-rule l = AllBest (DeclaredBy (take l.rule-index (map applied_in l.rules))) (views l.best)
