use Rattle.std.proofs.Common.{rules, sym}
use Rattle.strings.proofs.AssignedLemmas.{last_is}
use Rattle.strings.proofs.assigned.last_of.Goals as goal

pub returns : goal.returns
returns c = rw (sym (last_is c.args.marks.now)) (search rules)
