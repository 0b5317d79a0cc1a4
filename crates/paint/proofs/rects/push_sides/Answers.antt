use Rattle.std.proofs.Common.{◌≡◌, ◌∙◌, ap, arith, to_z, of_z}
use Rattle.std.proofs.lemmas.Int.{ints}
use mir.Syntax.{w64}
use Rattle.paint.specs.Rects.{left_area}
use Rattle.paint.proofs.RectLemmas.{sides_joined}
use Rattle.paint.proofs.rects.push_sides.Goals as goal

pub returns-clause-items : goal.returns-clause-items
returns-clause-items c =
    let s = c.args.sides.now in
    let top : to_z w64 (of_z w64 c.border_at-top.result) ≡ c.border_at-top.result = omega (arith, ints) in
    let right : to_z w64 (of_z w64 c.border_at-right.result) ≡ c.border_at-right.result = omega (arith, ints) in
    let bottom : to_z w64 (of_z w64 c.border_at-bottom.result) ≡ c.border_at-bottom.result = omega (arith, ints) in
    let left : to_z w64 (of_z w64 c.border_at-left.result) ≡ c.border_at-left.result = omega (arith, ints) in
    sides_joined c.args.props.now s.area s.right c.left_area.result s.upper s.lower _ _ _ _ _ _ _ _ _ _ _ _ _
    c.in_ok-push_edge.ensures.items c.in_ok-push_border.ensures.items c.in_ok-push_edge-2.ensures.items c.in_ok-push_border-2.ensures.items
    (top ∙ c.border_at-top.ensures.value) (right ∙ c.border_at-right.ensures.value) (bottom ∙ c.border_at-bottom.ensures.value) (left ∙ c.border_at-left.ensures.value)
    c.at_side.ensures c.at_side-2.ensures c.at_side-3.ensures c.at_side-4.ensures c.requires.right (c.left_area.ensures ∙ ap (left_area s.area) (left ∙ c.border_at-left.ensures.value))
