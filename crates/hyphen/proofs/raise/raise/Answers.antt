use Rattle.std.proofs.Common.{◌∙◌, arith}
use Rattle.hyphen.proofs.RaiseLemmas.{raised_all}
use Rattle.hyphen.proofs.raise.raise.Goals as goal

pub returns-clause-greater : goal.returns-clause-greater
returns-clause-greater c = λ q inside. c.loop-k.invariant.greater q ∙ raised_all c.args.values.now.items c.args.others.now c.args.from c.loop-k.k q (omega arith) c.requires inside
