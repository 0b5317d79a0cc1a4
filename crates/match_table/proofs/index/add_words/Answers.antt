use Rattle.std.proofs.Common.{subst}
use Rattle.match_table.specs.Index.{HasWord, HaveWords}
use Rattle.match_table.proofs.IndexLemmas.{compound-keys, keeps-words}
use Rattle.match_table.proofs.index.add_words.Goals as goal

pub returns-clause-added : goal.returns-clause-added
returns-clause-added c = compound-keys c.add_tests.new.words c.add_some.new.words c.args.compound.now
    (subst (λ ts. HaveWords c.add_tests.new.words ts) c.as_slice.ensures c.in_ok-add_tests.ensures.added) c.in_ok-add_some.ensures.keeps
    (subst (λ o. HasWord c.add_some.new.words o) c.type_of.ensures c.in_ok-add_some.ensures.added)

pub returns-clause-keeps : goal.returns-clause-keeps
returns-clause-keeps c = keeps-words c.args.words.now c.add_tests.new.words c.add_some.new.words c.in_ok-add_tests.ensures.keeps c.in_ok-add_some.ensures.keeps
