use Rattle.std.proofs.Common.{◌≡◌, ◌∙◌, ℤ, ◌+ℤ◌, ap, arith, to_z, of_z}
use Rattle.std.proofs.lemmas.Int.{ints}
use mir.Syntax.{w64}
use Rattle.line_place.specs.declared.extent.Extent.{Extent}
use Rattle.paint.proofs.lines.baseline_of.Goals as goal

pub returns : goal.returns
returns c =
    let o = c.args.canvas.now.origin in
    let s = c.args.s.now in
    let below = c.line_height.result.baseline in
    let near = c.line_height.ensures.baseline in
    let sum : to_z w64 (of_z w64 (to_z w64 (of_z w64 (to_z w64 (of_z w64 o.top) +ℤ to_z w64 (of_z w64 s.top))) +ℤ to_z w64 (of_z w64 below))) ≡ (o.top +ℤ s.top) +ℤ below = omega (arith, ints, near) in
    sum ∙ ap (λ (e : Extent). (o.top +ℤ s.top) +ℤ e.baseline) c.line_height.ensures.value
