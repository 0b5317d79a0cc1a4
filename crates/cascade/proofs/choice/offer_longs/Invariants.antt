use Rattle.std.proofs.Common.{◌≡◌, drop}
use Rattle.std.specs.List.{fold}
use Rattle.cascade.specs.Choice.{views, offered, longs_from}
use Rattle.cascade.proofs.choice.offer_longs.Given as goal

abbrev pub invariant-loop-index : goal.invariant-loop-index
invariant-loop-index l = fold offered (views l.best) (longs_from l.weight l.index (drop l.index l.longs)) ≡ fold offered (views l.fn.best) (longs_from l.weight 0 l.longs)
