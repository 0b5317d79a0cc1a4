use Rattle.std.proofs.Common.{sym, ◌∙◌}
use Rattle.counters.proofs.ChainLemmas.{front-is, front-none}
use Rattle.counters.proofs.scopes.front.Goals as goal

pub returns-in-Some : goal.returns-in-Some
returns-in-Some c = rw c.in-Some.is (c.mark_of.ensures ∙ front-is c.args.marks.now c.in-Some.index)

pub returns-in-None : goal.returns-in-None
returns-in-None c = rw c.in-None.is (sym (front-none c.args.marks.now))
