use Rattle.hyphen.specs.Meaning.{value_in}
use Rattle.hyphen.specs.Read.{pattern_view}
use Rattle.hyphen.proofs.PieceLemmas.{added_anywhere, added_at_start}
use Rattle.hyphen.proofs.patterns.Patterns.add.Goals as goal

pub returns-then-starts : goal.returns-then-starts
unfolding value_in
returns-then-starts c = added_at_start c.put.result c.args.self.now.anywhere c.args.self.now.at_start c.put.new.self (pattern_view c.args.pattern) c.deref.result.now c.if-starts.true c.deref.ensures.value c.requires c.put.ensures

pub returns : goal.returns
unfolding value_in
returns c = added_anywhere c.put-else-starts.result c.args.self.now.at_start c.args.self.now.anywhere c.put-else-starts.new.self (pattern_view c.args.pattern) c.deref-else-starts.result.now c.if-starts.false c.deref-else-starts.ensures.value c.requires c.put-else-starts.ensures
