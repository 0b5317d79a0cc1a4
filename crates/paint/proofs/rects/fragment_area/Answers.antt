use Rattle.std.proofs.Common.{◌≡◌, ◌+ℤ◌, ◌-ℤ◌, arith, to_z, of_z}
use Rattle.std.proofs.lemmas.Int.{ints}
use mir.Syntax.{w64}
use Rattle.paint.proofs.rects.fragment_area.Goals as goal

pub returns-clause-value : goal.returns-clause-value
returns-clause-value c =
    let o = c.args.origin.now in
    let k = c.args.border.now in
    let e = c.args.extent in
    let x : to_z w64 (of_z w64 (to_z w64 (of_z w64 o.left) +ℤ to_z w64 (of_z w64 k.left))) ≡ o.left +ℤ k.left = omega (arith, ints) in
    let y : to_z w64 (of_z w64 (to_z w64 (of_z w64 o.top) +ℤ to_z w64 (of_z w64 e.top))) ≡ o.top +ℤ e.top = omega (arith, ints) in
    let w : to_z w64 (of_z w64 k.width) ≡ k.width = omega (arith, ints) in
    let h : to_z w64 (of_z w64 (to_z w64 (of_z w64 e.bottom) -ℤ to_z w64 (of_z w64 e.top))) ≡ e.bottom -ℤ e.top = omega (arith, ints) in
    cc
