use Rattle.std.proofs.Common.{◌≡◌, ◌≤◌, drop}
use Rattle.bk_num.specs.Written.{most_whole}
use Rattle.selectors.specs.AnPlusB.{number_from}
use Rattle.selectors.proofs.an_plus_b.number.Given as goal

abbrev pub invariant-loop-at : goal.invariant-loop-at
invariant-loop-at l = record {
  few : l.number ≤ most_whole;
  same : number_from 0 l.digits ≡ number_from l.number (drop l.at l.digits);
}
