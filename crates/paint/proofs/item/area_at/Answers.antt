use Rattle.std.proofs.Common.{◌≡◌, ◌+ℤ◌, arith, to_z, of_z}
use Rattle.std.proofs.lemmas.Int.{ints}
use mir.Syntax.{w64}
use Rattle.paint.proofs.item.area_at.Goals as goal

pub returns : goal.returns
returns c =
    let o = c.args.origin.now in
    let k = c.args.content.now in
    let s = c.args.s.now in
    let x : to_z w64 (of_z w64 (to_z w64 (of_z w64 o.left) +ℤ to_z w64 (of_z w64 k.left))) ≡ o.left +ℤ k.left = omega (arith, ints) in
    let y : to_z w64 (of_z w64 (to_z w64 (of_z w64 o.top) +ℤ to_z w64 (of_z w64 s.top))) ≡ o.top +ℤ s.top = omega (arith, ints) in
    let w : to_z w64 (of_z w64 k.width) ≡ k.width = omega (arith, ints) in
    let h : to_z w64 (of_z w64 s.height) ≡ s.height = omega (arith, ints) in
    cc
