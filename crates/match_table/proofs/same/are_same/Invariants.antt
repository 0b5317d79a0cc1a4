use Rattle.std.proofs.Common.{◌≡◌, take}
use Rattle.match_table.proofs.same.are_same.Given as goal

abbrev pub invariant-loop-index : goal.invariant-loop-index
invariant-loop-index g l = take l.index l.parts ≡ take l.index l.others
