use Rattle.std.proofs.Common.{sym}
use Rattle.computed.proofs.WalkLemmas.{change-same, put-length}
use Rattle.computed.proofs.walk.put_some.Goals as goal

pub returns-in-None-clause-put : goal.returns-in-None-clause-put
returns-in-None-clause-put c = rw (c.in-None.is) (sym (change-same c.args.styles.now))

pub returns-in-Some-clause-some : goal.returns-in-Some-clause-some
returns-in-Some-clause-some c = put-length c.put.result _ c.args.styles.now c.put.new.self c.put.ensures.ok c.requires
