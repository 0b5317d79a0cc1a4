use Rattle.std.proofs.Common.{◌≡◌, ◌+ℤ◌, ◌-ℤ◌, arith, to_z, of_z}
use Rattle.std.proofs.lemmas.Int.{ints}
use mir.Syntax.{w64}
use Rattle.notes.specs.Notes.{placed_height}
use Rattle.paint.proofs.note_area.area_origin.Goals as goal

pub returns-clause-value : goal.returns-clause-value
returns-clause-value c =
    let f = c.args.frame.now in
    let height = c.area_height-height.ensures.value in
    let left : to_z w64 (of_z w64 f.left) ≡ f.left = omega (arith, ints) in
    let width : to_z w64 (of_z w64 f.width) ≡ f.width = omega (arith, ints) in
    let top : to_z w64 (of_z w64 (to_z w64 (of_z w64 (to_z w64 (of_z w64 f.top) +ℤ to_z w64 (of_z w64 f.height))) -ℤ to_z w64 (of_z w64 c.area_height-height.result))) ≡ (f.top +ℤ f.height) -ℤ placed_height c.args.notes.now = omega (arith, ints, height) in
    cc
