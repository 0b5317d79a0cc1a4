use Rattle.std.proofs.Common.{refl, FitsSigned, w64}
use Rattle.std.proofs.lemmas.Int.{to_z-of_z}
use Rattle.line_fill.proofs.kept.Kept.place.Goals as goal

pub share-requires : goal.share-requires
share-requires c =
    record { at = rw c.in-Ok.ensures.cases (rw c.as_ref-2.ensures at c.in-Some.ensures.some) }

pub returns-in-Some-clause-at : goal.returns-in-Some-clause-at
returns-in-Some-clause-at c =
    let fits : FitsSigned w64 c.args.measure = c.ranges.measure in
    rw (c.in-Ok.ensures.cases, to_z-of_z w64 c.args.measure fits) at c.share.ensures.at

pub add-requires-clause-none : goal.add-requires-clause-none
add-requires-clause-none c = rw c.in-Ok.ensures.cases (rw c.as_ref-2.ensures at (c.in_default-find.ensures.none refl))
