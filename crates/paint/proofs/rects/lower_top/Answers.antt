use Rattle.std.proofs.Common.{◌≡◌, ◌+ℤ◌, ◌-ℤ◌, ℤ, Some, ap, arith, to_z, of_z}
use Rattle.std.proofs.lemmas.Int.{ints}
use mir.Syntax.{w64}
use Rattle.paint.proofs.rects.lower_top.Goals as goal

pub overflow_add-result : goal.overflow_add-result
overflow_add-result c =
    let near = c.requires.near c.in-Some.edge c.in-Some.is in
    let bottom = near.bottom in
    omega (arith, ints, bottom)

pub overflow_sub-result : goal.overflow_sub-result
overflow_sub-result c =
    let near = c.requires.near c.in-Some.edge c.in-Some.is in
    let bottom = near.bottom in
    omega (arith, ints, bottom)

pub returns-in-Some : goal.returns-in-Some
returns-in-Some c =
    let o = c.args.origin.now in
    let near = c.requires.near c.in-Some.edge c.in-Some.is in
    let bottom = near.bottom in
    let exact : to_z w64 (of_z w64 (to_z w64 (of_z w64 (to_z w64 (of_z w64 o.top) +ℤ to_z w64 (of_z w64 c.in-Some.edge.bottom))) -ℤ to_z w64 (of_z w64 c.args.width))) ≡ (o.top +ℤ c.in-Some.edge.bottom) -ℤ c.args.width = omega (arith, ints, bottom) in
    rw c.in-Some.is (ap (λ (z : ℤ). Some z) exact)
