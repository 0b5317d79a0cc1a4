use Rattle.std.proofs.Common.{◌≡◌, fold, take}
use Rattle.computed.specs.Applied.{applied, begun}
use Rattle.computed.proofs.apply.style_in.Given as goal

abbrev pub invariant-loop-long : goal.invariant-loop-long
invariant-loop-long l = fold (applied l.parent l.context) (begun l.parent l.context) (take l.long-index l.winners) ≡ l.style
