use Rattle.std.proofs.Common.{◌<◌, inl, inr, length, arith, FitsSigned, w64}
use Rattle.std.proofs.lemmas.Int.{to_z-of_z}
use Rattle.line_fill.specs.LineEnd.{at_greedy}
use Rattle.line_fill.specs.Stops.{offsets_of}
use Rattle.line_fill.proofs.OffsetLemmas.{stops-count}
use Rattle.line_fill.proofs.PlanAheadLemmas.{alone-filled}
use Rattle.line_fill.proofs.plan.planned_line.Goals as goal

pub returns-in_default : goal.returns-in_default
returns-in_default c =
    let fits : FitsSigned w64 c.args.measure = c.ranges.measure in
    let many : 4096 < length (offsets_of c.args.leaf.now c.args.from) = rw c.in_default.is at c.paragraph_at.ensures in
    let n = stops-count c.args.faces.now c.args.leaf.now c.args.from in
    alone-filled c.args.faces.now c.args.leaf.now c.args.from c.args.measure c.fill.result c.alone.result c.alone.ensures.line c.alone.ensures.ahead (record {
      begins = c.fill.ensures.from;
      ends = at_greedy (inr (inl (omega (arith, n)))) (rw (to_z-of_z w64 c.args.measure fits) at c.fill.ensures.greedy);
      hyphen = c.fill.ensures.hyphen;
    })

pub returns-in-None : goal.returns-in-None
returns-in-None c =
    let fits : FitsSigned w64 c.args.measure = c.ranges.measure in
    let none = rw c.in-None.is at (simp to_z-of_z at c.in_ok-filled.ensures.none) in
    alone-filled c.args.faces.now c.args.leaf.now c.args.from c.args.measure c.fill-in-None.result c.alone-in-None.result c.alone-in-None.ensures.line c.alone-in-None.ensures.ahead (record {
      begins = c.fill-in-None.ensures.from;
      ends = at_greedy (inr (inr none)) (rw (to_z-of_z w64 c.args.measure fits) at c.fill-in-None.ensures.greedy);
      hyphen = c.fill-in-None.ensures.hyphen;
    })
