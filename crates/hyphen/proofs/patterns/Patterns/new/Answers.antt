use Rattle.hyphen.specs.Meaning.{value_in}
use Rattle.hyphen.proofs.PieceLemmas.{value_none}
use Rattle.hyphen.proofs.patterns.Patterns.new.Goals as goal

pub returns : goal.returns
unfolding value_in
returns c = value_none c.new.result c.new-2.result c.new.ensures c.new-2.ensures
