use Rattle.std.proofs.Common.{arith}
use Rattle.dom.proofs.DomLemmas.{length-joined}
use Rattle.dom.proofs.dom.Dom.len.Goals as goal

pub overflow_cast-result : goal.overflow_cast-result
overflow_cast-result c = (let l = length-joined c.self.inside.rows.items c.self.inside.store c.self.invariant.rows.count in let f = c.self.invariant.rows.tree.few in omega arith)

pub returns-clause-len : goal.returns-clause-len
returns-clause-len c = (let l = length-joined c.self.inside.rows.items c.self.inside.store c.self.invariant.rows.count in rw (← c.self.view_is) (omega arith))
