use Rattle.std.proofs.Common.{◌<◌, length, take}
use Rattle.std.specs.Prelude.{IfSome}
use Rattle.match_table.specs.Index.{IsNumberIn, IsRarest}
use Rattle.match_table.proofs.index.rarest.Given as goal

abbrev pub invariant-loop-test : goal.invariant-loop-test
invariant-loop-test l = record {
  key : IsRarest l.lists (IsNumberIn (take l.test-index l.tests) l.words) l.best;
  within : IfSome l.best (λ i. i < length l.words);
}
