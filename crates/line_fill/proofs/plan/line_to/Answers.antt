use Rattle.std.proofs.Common.{◌-◌, arith}
use Rattle.line_fill.proofs.EndLemmas.{stop_within}
use Rattle.line_fill.proofs.OffsetLemmas.{offset-ordinary}
use Rattle.line_fill.proofs.plan.line_to.Goals as goal

pub overflow_cast-to : goal.overflow_cast-to
overflow_cast-to c =
    let inside = c.requires.paragraph.inside in
    let o = offset-ordinary c.args.leaf.now c.args.paragraph.from (c.args.end - 1) inside c.requires.high in
    let w = o.within in
    let s = stop_within c.args.leaf.now.text c.args.paragraph.from (omega arith) in
    let e = c.offset-to.ensures in
    let f = c.requires.few in
    omega (arith, s, e)
