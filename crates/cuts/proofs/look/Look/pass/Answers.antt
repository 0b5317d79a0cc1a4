use Rattle.std.proofs.Common.{◌≡◌, ℤ, List, [], ◌∷◌, ◌++◌, Some, length, append-nil, ◌+◌, ◌-◌, ◌<ℤ◌, refl, sym, subst, arith}
use Rattle.std.proofs.lemmas.Int.{to_z-of_z}
use mir.Val.{SFits}
use mir.Syntax.{w64}
use Rattle.cuts.specs.declared.row.SolidRow.{SolidRow}
use Rattle.cuts.specs.Prefixes.{HasMissed, look_by}
use Rattle.cuts.specs.Short.{IsShort, short_by}
use Rattle.cuts.proofs.LookLemmas.{missed_joined, stacked_on}
use Rattle.cuts.proofs.ShortLemmas.{short_passed}
use Rattle.cuts.proofs.look.Look.pass.Goals as goal

-- where nothing is passed
none_more : (P : List SolidRow → Type 0) (rows more : List SolidRow) → length more ≡ 0 → P rows → P (rows ++ more)
none_more P rows [] e p = subst P (sym (append-nil rows)) p
none_more P rows (r ∷ more) e p = absurd (omega (arith, e))

pub returns-clause-look : goal.returns-clause-look
returns-clause-look c = λ kept frame list n rows more count joined look.
    let m : HasMissed kept frame list n rows c.in-Some.left = subst (look_by kept frame list n rows c.args.self.now) c.in-Some.is look in
    let passed = c.min-passed.ensures in
    missed_joined kept frame list n rows more c.in-Some.left _ (omega (arith, count, passed)) joined m

pub returns-clause-short : goal.returns-clause-short
returns-clause-short c = λ kept frame widest rows more count short.
    let s : short_by kept frame widest rows (Some c.in-Some.left) = subst (short_by kept frame widest rows) c.in-Some.is short.short in
    let passed = c.min-passed.ensures in
    record { least = short.least; short = short_passed kept frame widest rows more c.in-Some.left _ (omega (arith, count, passed)) s }

pub returns-clause-stacked : goal.returns-clause-stacked
returns-clause-stacked c = λ kept rows more count s.
    let fits : SFits w64 c.args.height = c.ranges.height in
    stacked_on kept c.args.height rows more c.args.self.now _ refl refl (subst (λ (z : ℤ). z <ℤ c.args.self.now.reach.extent) (to_z-of_z w64 c.args.height fits) (c.ends_within.ensures.past c.if-ends_within.false)) s

pub returns-then-ends_within-clause-short : goal.returns-then-ends_within-clause-short
returns-then-ends_within-clause-short c = λ kept frame widest rows more count short. none_more (λ rs. IsShort kept frame widest rs c.args.self.now) rows more count short
