use Rattle.std.proofs.Common.{◌-◌, arith, leb}
use Rattle.hyphen.proofs.TreeLemmas.{raised_once, raised_twice}
use Rattle.hyphen.proofs.tree.Node.raise.Goals as goal

pub returns-then-ends-clause-greater : goal.returns-then-ends-clause-greater
returns-then-ends-clause-greater c = λ q inside. rw c.if-ends.true (raised_twice c.args.self.now (leb c.args.from q) c.deref.result.now c.deref-then-ends.result.now (q - c.args.from) _ _ _ c.deref.ensures.value c.deref-then-ends.ensures.value (c.raise.ensures.greater q inside) (c.raise-then-ends.ensures.greater q (omega (arith, inside, c.raise.ensures.len))))

pub returns-else-ends-clause-greater : goal.returns-else-ends-clause-greater
returns-else-ends-clause-greater c = λ q inside. rw c.if-ends.false (raised_once c.args.self.now (leb c.args.from q) c.deref.result.now (q - c.args.from) _ _ c.deref.ensures.value (c.raise.ensures.greater q inside))
