use Rattle.std.proofs.Common.{◌≡◌, ◌+◌, ◌-◌, ◌≤◌, length, drop}
use Rattle.css_tok.specs.Lengths.{run_len}
use Rattle.css_tok.proofs.lengths.run_len.Given as goal

abbrev pub invariant-units : goal.invariant-units
invariant-units l = record {
  within : l.at ≤ length l.text;
  passed : run_len l.class l.text ≡ l.at + run_len l.class (drop l.at l.text);
}

abbrev pub decreases-units : goal.decreases-units
decreases-units l = length l.text - l.at
