use Rattle.std.proofs.Common.{ℕ, List, subst}
use Rattle.std.proofs.lemmas.Int.{to_z-of_z}
use mir.Syntax.{w64}
use mir.Val.{SFits}
use Rattle.total_fit.specs.Plans.{CostsLeast}
use Rattle.total_fit.proofs.CertificateLemmas.{certified-least}
use Rattle.total_fit.proofs.check.checked.Goals as goal

pub returns-clause-least : goal.returns-clause-least
returns-clause-least c =
    let f : SFits w64 c.args.first = c.ranges.first in
    let g : SFits w64 c.args.rest = c.ranges.rest in
    let e = simp to_z-of_z at c.is_certified.ensures in
    λ t. subst (λ (z : List ℕ). CostsLeast c.args.stops.now (record { first = c.args.first; rest = c.args.rest }) z) c.as_slice.ensures
    (certified-least _ _ _ _ _ (e.0 t))
