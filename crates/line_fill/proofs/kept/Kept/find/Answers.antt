use Rattle.std.proofs.Common.{FitsSigned, w64}
use Rattle.std.proofs.lemmas.Int.{to_z-of_z}
use Rattle.line_fill.proofs.kept.Kept.find.Goals as goal

pub returns-clause-some : goal.returns-clause-some
returns-clause-some c =
    let fits : FitsSigned w64 c.args.measure = c.ranges.measure in
    rw (← c.self.view_is) (rw (c.as_slice.ensures.value, to_z-of_z w64 c.args.measure fits) at c.find.ensures.some)

pub returns-clause-none : goal.returns-clause-none
returns-clause-none c =
    let fits : FitsSigned w64 c.args.measure = c.ranges.measure in
    rw (← c.self.view_is) (rw (c.as_slice.ensures.value, to_z-of_z w64 c.args.measure fits) at c.find.ensures.none)
