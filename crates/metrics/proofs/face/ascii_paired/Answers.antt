use Rattle.std.proofs.Common.{arith}
use Rattle.std.proofs.lemmas.Int.{ints}
use Rattle.metrics.proofs.PairLemmas.{paired_within}
use Rattle.metrics.proofs.face.ascii_paired.Goals as goal

pub changed-requires-clause-least : goal.changed-requires-clause-least
changed-requires-clause-least c =
    let w = paired_within c.args.lines.now c.args.first c.args.c c.change_at-change.ensures.limits in
    let k = c.requires.advances c.args.c (omega arith) in
    omega (arith, ints)

pub changed-requires-clause-most : goal.changed-requires-clause-most
changed-requires-clause-most c =
    let w = paired_within c.args.lines.now c.args.first c.args.c c.change_at-change.ensures.limits in
    let k = c.requires.advances c.args.c (omega arith) in
    omega (arith, ints)
