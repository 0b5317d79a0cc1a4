use Rattle.std.proofs.Common.{◌≡◌, Some, sym}
use Rattle.std.proofs.lemmas.Int.{to_z-of_z}
use mir.Syntax.{w64}
use mir.Val.{SFits}
use Rattle.total_fit.specs.declared.plan.Measures.{Measures}
use Rattle.total_fit.specs.Plans.{ArePotentials, IsBest, potential_of}
use Rattle.total_fit.proofs.CertificateLemmas.{best-certified, start-cost}
use Rattle.total_fit.proofs.best.best_plan.Goals as goal
use Rattle.total_fit.proofs.best.best_plan.Goals.{After-drop-reaches-2}

measures : (c : After-drop-reaches-2) → Measures
measures c = record { first = c.args.first; rest = c.args.rest }

known : (c : After-drop-reaches-2) → ArePotentials c.args.stops.now (record { first = c.args.first; rest = c.args.rest }) c.of-2.result
known c =
    let f : SFits w64 c.args.first = c.ranges.first in
    let g : SFits w64 c.args.rest = c.ranges.rest in
    rw c.of-2.ensures (simp to_z-of_z at c.in_ok-potentials.ensures)

best : (c : After-drop-reaches-2) → IsBest c.args.stops.now (record { first = c.args.first; rest = c.args.rest }) c.of.result
best c =
    let f : SFits w64 c.args.first = c.ranges.first in
    let g : SFits w64 c.args.rest = c.ranges.rest in
    rw c.of.ensures (simp to_z-of_z at c.in_ok-ends.ensures)

start : (c : After-drop-reaches-2) → potential_of c.of-2.result 0 ≡ Some c.in-Some.cost
start c = rw (c.of-2.ensures, ← c.as_slice-2.ensures.value) (sym c.in-Some.ensures)

pub returns-clause-cost : goal.returns-clause-cost
returns-clause-cost c = start-cost _ _ _ _ _ (known c) (best c) (start c)

pub returns-clause-certified : goal.returns-clause-certified
returns-clause-certified c =
    best-certified _ _ _ _ _ c.requires.measures c.requires.stops.few (known c) (best c) (start c)
