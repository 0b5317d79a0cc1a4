use Rattle.match_table.proofs.IndexLemmas.{word-added}
use Rattle.match_table.proofs.index.Words.add.Goals as goal

pub returns-clause-added : goal.returns-clause-added
returns-clause-added c = (word-added (λ k. k.now) c.self.inside.set.keys c.insert.new.self.keys c.args.word c.in_ok-insert.ensures.keys).0

pub returns-clause-keeps : goal.returns-clause-keeps
returns-clause-keeps c = rw (← c.self.view_is) ((word-added (λ k. k.now) c.self.inside.set.keys c.insert.new.self.keys c.args.word c.in_ok-insert.ensures.keys).1)
