use Rattle.std.proofs.Common.{rules, ◌≡◌, ◌*◌, ◌^◌, unsigned_abs, ◌*ℤ◌, arith, FitsSigned, refl}
use Rattle.std.specs.Int.{w128}
use Rattle.std.proofs.lemmas.Nat.{mul-lt}
use Rattle.std.proofs.lemmas.Int.{to_z-of_z, unsigned_abs-mul}
use Rattle.std.proofs.Math.Nat.{one-le-mul, one-le-pow}
use Rattle.bk_num.specs.Units.{clamped, rounded}
use Rattle.bk_num.proofs.length.part_of.Goals as goal

pub round_div-requires-clause-some : goal.round_div-requires-clause-some
round_div-requires-clause-some c = rw c.pow.ensures (one-le-mul (one-le-pow c.places.result 10 (omega arith)) c.requires.some)

pub round_div-requires-clause-small : goal.round_div-requires-clause-small
round_div-requires-clause-small c =
    let e : c.product.result ≡ c.units.result *ℤ c.args.base = search rules in
    let fits : FitsSigned w128 c.product.result = search rules in
    rw (to_z-of_z w128 c.product.result fits, e, unsigned_abs-mul) (omega (arith, mul-lt (unsigned_abs c.units.result) (unsigned_abs c.args.base) (2 ^ 50) (2 ^ 41) (omega (arith, c.units.ensures.small)) (omega (arith, c.requires.base))))

pub returns : goal.returns
returns c =
    let e : c.product.result ≡ c.units.result *ℤ c.args.base = search rules in
    let fits : FitsSigned w128 c.product.result = search rules in
    let fits' : FitsSigned w128 c.round_div.result = search rules in
    let a : c.round_div.result ≡ rounded c.product.result (c.pow.result * c.args.den) = rw (to_z-of_z w128 c.product.result fits) at c.round_div.ensures in
    let b : c.clamp_wide.result ≡ clamped c.round_div.result = rw (to_z-of_z w128 c.round_div.result fits') at c.clamp_wide.ensures in
    rw (b, a, e, c.pow.ensures, c.units.ensures.value, c.places.ensures.value) refl
