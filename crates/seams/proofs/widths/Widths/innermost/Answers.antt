use Rattle.std.proofs.Common.{◌≡◌, [], ap, ◌∙◌, arith, length, to_z, of_z}
use Rattle.std.proofs.lemmas.Int.{ints}
use mir.Syntax.{w64}
use Rattle.seams.specs.declared.open_box.OpenBox.{OpenBox}
use Rattle.seams.specs.Widths.{innermost_in}
use Rattle.seams.proofs.WidthLemmas.{widths_size}
use Rattle.seams.proofs.widths.Widths.innermost.Goals as goal

pub returns-clause-width : goal.returns-clause-width
returns-clause-width c = λ t boxes same.
    let exact : to_z w64 (of_z w64 c.args.measure) ≡ c.args.measure = omega (arith, ints) in
    let size = c.count.ensures.count ∙ ap length same ∙ widths_size t c.args.measure boxes in
    let inner : c.at_depth.result ≡ innermost_in t c.args.measure boxes = simp exact at c.at_depth.ensures.value t [] boxes same size in
    let low = c.at_depth.ensures.bounded.low in
    let high = c.at_depth.ensures.high in
    let cast : to_z w64 (of_z w64 c.at_depth.result.width) ≡ c.at_depth.result.width = omega (arith, ints) in
    cast ∙ ap (λ (o : OpenBox). o.width) inner
