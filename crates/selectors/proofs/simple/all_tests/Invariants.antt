use Rattle.std.proofs.Common.{◌≡◌, ◌≤◌, length}
use Rattle.css_words.specs.Repeat.{many, with_prefix}
use Rattle.selectors.specs.Grammar.{next_test}
use Rattle.selectors.proofs.simple.all_tests.Given as goal

abbrev pub invariant-tests : goal.invariant-tests
invariant-tests l = record {
  read : many next_test l.fn.reader ≡ with_prefix l.found (many next_test l.reader);
  within : length l.reader ≤ length l.fn.reader;
}

abbrev pub decreases-tests : goal.decreases-tests
decreases-tests l = length l.reader
