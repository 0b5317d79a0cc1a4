use Rattle.std.proofs.Common.{◌≡◌, ◌+◌, ◌≤◌, ℕ, length, get_or}
use Rattle.hyphen.specs.Fields.{two_values}
use Rattle.hyphen.specs.Pattern.{most}
use Rattle.hyphen.specs.Pieces.{pieces_from}
use Rattle.hyphen.proofs.patterns.Patterns.values.Given as goal

abbrev pub invariant-loop-at : goal.invariant-loop-at
invariant-loop-at l = record {
  len : length l.values.items ≡ length l.word + 1;
  values : (q : ℕ) → q ≤ length l.word → get_or l.values.items q 0 ≡ most l.at (pieces_from (two_values l.self.anywhere l.self.at_start) l.word q);
}
