use Rattle.std.proofs.Common.{◌≡◌, [], ℕ, ap, ◌∙◌, arith, subst, length, to_z, of_z}
use Rattle.std.proofs.lemmas.Int.{ints}
use mir.Syntax.{w64}
use Rattle.boxes.proofs.TreeFacts.{box_good}
use Rattle.seams.specs.Widths.{IsBounded, innermost_in}
use Rattle.seams.proofs.WidthLemmas.{widths_opened, widths_size}
use Rattle.seams.proofs.widths.Widths.open_box.Goals as goal

pub opened_in-requires-clause-good : goal.opened_in-requires-clause-good
opened_in-requires-clause-good c = box_good c.args.tree.now c.count-count.ensures.tree c.args.index c.props.result.now c.props.ensures

pub push-requires-clause-bounded : goal.push-requires-clause-bounded
push-requires-clause-bounded c = c.opened_in.ensures.bounded (length c.args.self.now) (subst (λ (n : ℕ). IsBounded n c.at_depth-outer.result) c.count.ensures.count c.at_depth-outer.ensures.bounded)

pub returns : goal.returns
returns c = λ boxes same.
    let exact : to_z w64 (of_z w64 c.args.measure) ≡ c.args.measure = omega (arith, ints) in
    let size = c.count.ensures.count ∙ ap length same ∙ widths_size c.args.tree.now c.args.measure boxes in
    let inner : c.at_depth-outer.result ≡ innermost_in c.args.tree.now c.args.measure boxes = simp exact at c.at_depth-outer.ensures.value c.args.tree.now [] boxes same size in
    c.push.ensures ∙ widths_opened c.args.tree.now c.args.measure c.args.self.now boxes c.args.index c.props.result.now c.at_depth-outer.result c.opened_in.result c.props.ensures same inner c.opened_in.ensures.width c.opened_in.ensures.head c.opened_in.ensures.tail
