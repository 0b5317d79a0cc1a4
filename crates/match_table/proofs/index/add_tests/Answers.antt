use Rattle.std.proofs.Common.{subst}
use Rattle.match_table.specs.Index.{HasWord, HaveWords}
use Rattle.match_table.proofs.IndexLemmas.{words-more, keeps-words, taken-all}
use Rattle.match_table.proofs.index.add_tests.Goals as goal

pub loop-test-preserved : goal.loop-test-preserved
loop-test-preserved c = (
  words-more c.loop-test.words c.add_some.new.words c.args.tests.now c.loop-test.test-index c.test-item.result c.loop-test-test.true c.test-item.is c.loop-test.invariant.0
      c.in_ok-add_some.ensures.keeps (subst (λ o. HasWord c.add_some.new.words o) c.word_of.ensures c.in_ok-add_some.ensures.added),
  keeps-words c.args.words.now c.loop-test.words c.add_some.new.words c.loop-test.invariant.1 c.in_ok-add_some.ensures.keeps,
)

pub returns-clause-added : goal.returns-clause-added
returns-clause-added c = subst (λ l. HaveWords c.loop-test.words l) (taken-all c.loop-test.test-index c.args.tests.now c.loop-test-test.false) c.loop-test.invariant.0
