use Rattle.std.proofs.Common.{◌≡◌, ◌++◌, drop}
use Rattle.cascade.specs.Choice.{views, longs_in}
use Rattle.cascade.proofs.choice.longs_of.Given as goal

abbrev pub invariant-loop-index : goal.invariant-loop-index
invariant-loop-index l = l.longs.items ++ longs_in (views (drop l.index l.best)) ≡ longs_in (views l.best)
