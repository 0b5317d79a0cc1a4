use Rattle.std.proofs.Common.{◌≡◌, drop}
use Rattle.std.specs.List.{fold}
use Rattle.cascade.specs.Choice.{views, offered, decls_from}
use Rattle.cascade.proofs.choice.offer_decls.Given as goal

abbrev pub invariant-loop-index : goal.invariant-loop-index
invariant-loop-index l = fold offered (views l.best) (decls_from l.weight l.index (drop l.index l.decls)) ≡ fold offered (views l.fn.best) (decls_from l.weight 0 l.decls)
