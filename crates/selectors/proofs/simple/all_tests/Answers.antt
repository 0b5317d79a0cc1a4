use Rattle.std.proofs.Common.{◌≡◌, ◌∙◌, rules, arith}
use Rattle.std.specs.Prelude.{Some, None}
use Rattle.std.proofs.lemmas.Grind.{common_steps}
use Rattle.css_words.proofs.RepeatLemmas.{many_stops}
use Rattle.selectors.specs.Grammar.{all_tests, next_test}
use Rattle.selectors.proofs.simple.all_tests.Goals as goal

pub returns-in-None-clause-reads : goal.returns-in-None-clause-reads
unfolding all_tests
returns-in-None-clause-reads c =
    let e : next_test c.tests.reader ≡ Some (None, c.next_test.new.reader) = first_of (search rules, grind (arith, common_steps)) in
    c.tests.invariant.read ∙ many_stops next_test c.tests.found c.tests.reader c.next_test.new.reader e
