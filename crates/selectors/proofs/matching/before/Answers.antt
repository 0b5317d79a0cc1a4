use Rattle.std.proofs.Common.{◌&&◌, suc, arith}
use Rattle.std.proofs.lemmas.Bool.{and_left}
use Rattle.selectors.specs.Sets.{has}
use Rattle.selectors.specs.Match.{joins_by}
use Rattle.selectors.proofs.SetLemmas.{bounded_suc, joins_past}
use Rattle.selectors.proofs.matching.before.Goals as goal

pub returns : goal.returns
returns c = bounded_suc (has c.loop-k.wanted) (λ k. joins_by c.args.selector.now c.args.join k && has c.args.found (suc k)) c.loop-k.k c.loop-k.invariant (λ k past. and_left (joins_by c.args.selector.now c.args.join k) (has c.args.found (suc k)) (joins_past c.args.selector.now c.args.join k (omega arith)))
