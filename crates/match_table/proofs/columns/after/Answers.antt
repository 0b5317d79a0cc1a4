use Rattle.std.proofs.Common.{◌&&◌, suc, arith}
use Rattle.std.proofs.lemmas.Bool.{and_left}
use Rattle.selectors.specs.Sets.{has}
use Rattle.selectors.specs.Match.{joins_by}
use Rattle.selectors.proofs.SetLemmas.{bounded_suc, joins_past}
use Rattle.match_table.proofs.columns.after.Goals as goal

pub returns-clause-later : goal.returns-clause-later
returns-clause-later c = bounded_suc (λ k. has c.loop-k.wanted (suc k)) (λ k. joins_by c.args.selector.now c.args.join k && has c.args.found k) c.loop-k.k c.loop-k.invariant.later (λ k past. and_left (joins_by c.args.selector.now c.args.join k) (has c.args.found k) (joins_past c.args.selector.now c.args.join k (omega arith)))
