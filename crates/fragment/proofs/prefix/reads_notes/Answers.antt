use Rattle.std.proofs.Common.{◌≤ℤ◌, ◌<ℤ◌, inr, ℤ, length, rules, subst}
use Rattle.std.proofs.lemmas.Int.{to_z-of_z}
use mir.Val.{SFits}
use mir.Syntax.{w64}
use Rattle.cuts.specs.Prefixes.{IsStacked}
use Rattle.cuts.specs.Rows.{rows_extent}
use Rattle.fragment.proofs.prefix.reads_notes.Goals as goal

pub returns-then-not-ends-clause-inside : goal.returns-then-not-ends-clause-inside
returns-then-not-ends-clause-inside c e =
    let fits : SFits w64 c.args.height = search rules in
    (c.if-not-ends.true, λ kept rows stacked. subst (λ (z : ℤ). IsStacked kept z rows c.args.look.now → rows_extent kept rows (length rows) ≤ℤ z) (to_z-of_z w64 c.args.height fits) (c.is_inside.ensures.inside e kept rows) stacked)

pub returns-then-not-ends-clause-past : goal.returns-then-not-ends-clause-past
returns-then-not-ends-clause-past c e =
    let fits : SFits w64 c.args.height = search rules in
    inr (λ kept rows stacked. subst (λ (z : ℤ). IsStacked kept z rows c.args.look.now → z <ℤ rows_extent kept rows (length rows)) (to_z-of_z w64 c.args.height fits) (c.is_inside.ensures.below e kept rows) stacked)
