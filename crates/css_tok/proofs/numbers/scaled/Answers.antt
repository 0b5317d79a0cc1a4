use Rattle.css_tok.proofs.NumberLemmas.{small_is}
use Rattle.css_tok.proofs.numbers.scaled.Goals as goal

pub returns-clause-small : goal.returns-clause-small
returns-clause-small c = rw c.pow.ensures (small_is _ _ _ c.whole_of.ensures.few c.requires.few c.value_of.ensures.below)
