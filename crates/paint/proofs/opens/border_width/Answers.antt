use Rattle.std.proofs.Common.{◌≡◌, ap, ◌∙◌, arith, to_z, of_z}
use Rattle.std.proofs.lemmas.Int.{ints}
use mir.Syntax.{w64}
use Rattle.bk_num.specs.declared.sides.BoxSide.TheVariants as side
use Rattle.boxes.specs.Spans.{frame_at, width_in_block}
use Rattle.paint.proofs.opens.border_width.Goals as goal

pub returns-clause-value : goal.returns-clause-value
returns-clause-value c =
    let p = c.args.props.now in
    let exact : to_z w64 (of_z w64 c.args.width) ≡ c.args.width = omega (arith, ints) in
    let inner : c.content_width_in.result ≡ width_in_block p c.args.width = c.content_width_in.ensures.value ∙ ap (width_in_block p) exact in
    let left : c.frame_units.result ≡ frame_at p side.Left c.args.width = c.frame_units.ensures.value ∙ ap (frame_at p side.Left) exact in
    let right : c.frame_units-2.result ≡ frame_at p side.Right c.args.width = c.frame_units-2.ensures.value ∙ ap (frame_at p side.Right) exact in
    omega (arith, ints, inner, left, right)
