use Rattle.std.proofs.Common.{◌≡◌, ◌+ℤ◌, ◌-ℤ◌, arith, to_z, of_z}
use Rattle.std.proofs.lemmas.Int.{ints}
use mir.Syntax.{w64}
use Rattle.paint.proofs.rects.right_area.Goals as goal

pub returns : goal.returns
returns c =
    let a = c.args.area in
    let x : to_z w64 (of_z w64 (to_z w64 (of_z w64 (to_z w64 (of_z w64 a.x) +ℤ to_z w64 (of_z w64 a.w))) -ℤ to_z w64 (of_z w64 c.args.width))) ≡ (a.x +ℤ a.w) -ℤ c.args.width = omega (arith, ints) in
    let y : to_z w64 (of_z w64 a.y) ≡ a.y = omega (arith, ints) in
    let w : to_z w64 (of_z w64 c.args.width) ≡ c.args.width = omega (arith, ints) in
    let h : to_z w64 (of_z w64 a.h) ≡ a.h = omega (arith, ints) in
    cc
