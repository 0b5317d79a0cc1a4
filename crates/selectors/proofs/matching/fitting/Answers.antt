use Rattle.std.proofs.Common.{◌&&◌, arith}
use Rattle.std.proofs.lemmas.Bool.{and_right}
use Rattle.selectors.specs.Sets.{has}
use Rattle.selectors.specs.Match.{fits}
use Rattle.selectors.proofs.SetLemmas.{bounded, fits_past}
use Rattle.selectors.proofs.matching.fitting.Goals as goal

pub returns : goal.returns
returns c = bounded (has c.loop-k.found) (λ k. has c.args.wanted k && fits c.args.document.now c.args.selector.now k c.args.node.0) c.loop-k.k c.loop-k.invariant (λ k past. and_right (has c.args.wanted k) (fits c.args.document.now c.args.selector.now k c.args.node.0) (fits_past c.args.document.now c.args.selector.now k c.args.node.0 (omega arith)))
