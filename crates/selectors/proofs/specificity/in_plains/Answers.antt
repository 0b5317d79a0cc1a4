use Rattle.std.proofs.Common.{◌≡◌, ◌<◌, List, [], ◌∷◌, length, refl, arith}
use Rattle.selectors.specs.declared.types.Plain.{Plain}
use Rattle.selectors.specs.declared.specificity.Count.{Count}
use Rattle.selectors.specs.Specificity.{in_plains}
use Rattle.selectors.proofs.specificity.in_plains.Goals as goal

none_left : (c : Count) (left : List Plain) → length left < 1 → in_plains c left ≡ 0
none_left c [] none = refl
none_left c (x ∷ xs) none = absurd (omega arith)

pub returns : goal.returns
returns c = let none : in_plains c.args.count c.loop-left.left.now ≡ 0 = none_left c.args.count c.loop-left.left.now c.in_default.len_below in omega (arith, none, c.loop-left.invariant.few, c.loop-left.invariant.same)
