use Rattle.std.proofs.Common.{ℤ, ◌≤ℤ◌, ◌<ℤ◌, subst}
use Rattle.std.proofs.lemmas.Int.{to_z-of_z}
use mir.Val.{SFits}
use mir.Syntax.{w64}
use Rattle.cuts.proofs.LookLemmas.{stacked_below, stacked_inside}
use Rattle.cuts.proofs.look.Look.is_inside.Goals as goal

pub returns-clause-inside : goal.returns-clause-inside
returns-clause-inside c e kept rows s =
    let fits : SFits w64 c.args.height = c.ranges.height in
    stacked_inside kept c.args.height rows c.args.self.now (subst (λ (z : ℤ). c.args.self.now.reach.extent ≤ℤ z) (to_z-of_z w64 c.args.height fits) (c.ends_within.ensures.within e)) s

pub returns-clause-below : goal.returns-clause-below
returns-clause-below c e kept rows s =
    let fits : SFits w64 c.args.height = c.ranges.height in
    stacked_below kept c.args.height rows c.args.self.now (subst (λ (z : ℤ). z <ℤ c.args.self.now.reach.extent) (to_z-of_z w64 c.args.height fits) (c.ends_within.ensures.past e)) s
