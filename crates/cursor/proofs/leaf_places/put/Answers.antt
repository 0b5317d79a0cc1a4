use Rattle.std.proofs.Common.{arith}
use Rattle.cursor.proofs.NotedLemmas.{put_noted}
use Rattle.cursor.proofs.leaf_places.put.Goals as goal

pub returns-clause-put : goal.returns-clause-put
returns-clause-put c =
    let long = c.in_ok-lengthen.ensures.long in
    put_noted c.args.firsts.now.items c.lengthen.new.firsts.items c.args.leaf c.args.place (omega (arith, long)) c.in_ok-lengthen.ensures.stays
