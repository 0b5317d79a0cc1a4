use Rattle.std.proofs.Common.{◌≡◌, ◌≤◌, ◌-◌, ap, ◌∙◌, arith, length, to_z, of_z}
use Rattle.std.proofs.lemmas.Int.{ints}
use mir.Syntax.{w64}
use Rattle.boxes.specs.Tree.{rest_of}
use Rattle.seams.specs.declared.open_box.OpenBox.{OpenBox}
use Rattle.seams.specs.Widths.{innermost_in, widths_of}
use Rattle.seams.proofs.WidthLemmas.{first_in, first_rest, none_around, rest_size, widths_size}
use Rattle.seams.proofs.widths.Widths.outer.Goals as goal

pub returns-then-count-le1-clause-width : goal.returns-then-count-le1-clause-width
returns-then-count-le1-clause-width c = λ t boxes same.
    let exact : to_z w64 (of_z w64 c.args.measure) ≡ c.args.measure = omega (arith, ints) in
    let few : length c.args.self.now ≤ 1 = omega arith in
    exact ∙ none_around t c.args.measure c.args.self.now boxes same few

pub returns-clause-width : goal.returns-clause-width
returns-clause-width c = λ t boxes same.
    let exact : to_z w64 (of_z w64 c.args.measure) ≡ c.args.measure = omega (arith, ints) in
    let whole = same ∙ ap (widths_of t c.args.measure) (first_rest boxes) in
    let all = ap length same ∙ widths_size t c.args.measure boxes in
    let less = rest_size boxes in
    let size : c.count-count.result - 1 ≡ length (rest_of boxes) = omega arith in
    let around : c.at_depth.result ≡ innermost_in t c.args.measure (rest_of boxes) = simp exact at c.at_depth.ensures.value t (first_in boxes) (rest_of boxes) whole size in
    let low = c.at_depth.ensures.bounded.low in
    let high = c.at_depth.ensures.high in
    let cast : to_z w64 (of_z w64 c.at_depth.result.width) ≡ c.at_depth.result.width = omega (arith, ints) in
    cast ∙ ap (λ (o : OpenBox). o.width) around
