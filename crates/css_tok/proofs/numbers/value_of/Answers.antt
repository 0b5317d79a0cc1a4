use Rattle.std.proofs.Common.{rules}
use Rattle.css_tok.proofs.NumberLemmas.{value_more, power_more}
use Rattle.css_tok.proofs.numbers.value_of.Goals as goal

pub loop-b-preserved : goal.loop-b-preserved
loop-b-preserved c = (rw c.digit.ensures.value (value_more c.args.digits.now c.loop-b.b-index c.loop-b.value (search rules) c.loop-b.invariant.0), power_more c.loop-b.b-index c.loop-b.value c.digit.result c.loop-b.invariant.1 c.digit.ensures.below)
