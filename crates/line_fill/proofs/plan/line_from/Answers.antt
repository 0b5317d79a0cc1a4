use Rattle.std.proofs.Common.{FitsSigned, w64}
use Rattle.std.proofs.lemmas.Int.{to_z-of_z}
use Rattle.line_fill.proofs.PlanAheadLemmas.{alone-filled}
use Rattle.line_fill.proofs.plan.line_from.Goals as goal

pub returns-then-not-leaf-clause-lines : goal.returns-then-not-leaf-clause-lines
returns-then-not-leaf-clause-lines g c =
    let fits : FitsSigned w64 c.args.measure = c.ranges.measure in
    alone-filled c.args.faces.now c.args.leaf.now c.args.from c.args.measure c.next_line-line.result c.alone.result c.alone.ensures.line c.alone.ensures.ahead
    (rw (to_z-of_z w64 c.args.measure fits) at c.next_line-line.ensures.line)
