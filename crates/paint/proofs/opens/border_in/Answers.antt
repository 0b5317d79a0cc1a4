use Rattle.std.proofs.Common.{◌≡◌, ◌∙◌, ◌+ℤ◌, ap, arith, to_z, of_z}
use Rattle.std.proofs.lemmas.Int.{ints}
use mir.Syntax.{w64}
use Rattle.boxes.specs.Spans.{left_in_block}
use Rattle.paint.specs.Opens.{border_in, border_width}
use Rattle.paint.proofs.opens.border_in.Goals as goal

pub returns-clause-value : goal.returns-clause-value
unfolding border_in
returns-clause-value c =
    let p = c.args.props.now in
    let outer = c.args.outer.now in
    let exact : to_z w64 (of_z w64 outer.width) ≡ outer.width = omega (arith, ints) in
    let margin : c.left_margin_in.result ≡ left_in_block p outer.width = c.left_margin_in.ensures.value ∙ ap (left_in_block p) exact in
    let left : to_z w64 (of_z w64 (to_z w64 (of_z w64 outer.left) +ℤ to_z w64 (of_z w64 c.left_margin_in.result))) ≡ outer.left +ℤ left_in_block p outer.width = omega (arith, ints, margin) in
    let same : to_z w64 (of_z w64 c.border_width.result) ≡ c.border_width.result = omega (arith, ints) in
    let width : to_z w64 (of_z w64 c.border_width.result) ≡ border_width p outer.width = same ∙ c.border_width.ensures.value ∙ ap (border_width p) exact in
    cc
