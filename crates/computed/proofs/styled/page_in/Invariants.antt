use Rattle.std.proofs.Common.{◌≡◌, None, fold, take, option_map}
use Rattle.computed.specs.Names.{named}
use Rattle.computed.proofs.styled.page_in.Given as goal

abbrev pub invariant-loop-long : goal.invariant-loop-long
invariant-loop-long l = fold named None (take l.long-index l.winners) ≡ option_map (λ n. n.now) l.found
