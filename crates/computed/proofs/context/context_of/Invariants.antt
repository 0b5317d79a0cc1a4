use Rattle.std.proofs.Common.{◌≡◌, fold, take}
use Rattle.computed.specs.Context.{noted, bare}
use Rattle.computed.proofs.context.context_of.Given as goal

abbrev pub invariant-loop-long : goal.invariant-loop-long
invariant-loop-long l = fold (noted l.parent l.rem) (bare l.parent) (take l.long-index l.winners) ≡ l.context
