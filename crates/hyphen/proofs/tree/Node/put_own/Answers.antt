use Rattle.hyphen.proofs.RollLemmas.{rolled_anywhere, rolled_at_end}
use Rattle.hyphen.proofs.tree.Node.put_own.Goals as goal

pub returns-then-ends : goal.returns-then-ends
returns-then-ends c = rw c.if-ends.true (rolled_at_end c.args.self.now c.raise_all.new.values c.args.values.items c.raise_all.ensures)

pub returns-else-ends : goal.returns-else-ends
returns-else-ends c = rw c.if-ends.false (rolled_anywhere c.args.self.now c.raise_all-else-ends.new.values c.args.values.items c.raise_all-else-ends.ensures)
