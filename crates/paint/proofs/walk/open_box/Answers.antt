use Rattle.std.proofs.Common.{List, length, subst}
use Rattle.boxes.proofs.TreeFacts.{box_good}
use Rattle.boxes.specs.declared.span.Content.{Content}
use Rattle.paint.specs.Opens.{IsContentWithin}
use Rattle.paint.specs.declared.opens.PlacedBox.{PlacedBox}
use Rattle.paint.proofs.OpenLemmas.{bounded_push, inside_bounded}
use Rattle.paint.proofs.walk.open_box.Goals as goal

pub content_in-requires-clause-good : goal.content_in-requires-clause-good
content_in-requires-clause-good c = box_good c.args.tree.now c.count-count.ensures.tree c.args.index c.props.result.now c.props.ensures

pub returns-clause-bounded : goal.returns-clause-bounded
returns-clause-bounded c =
    let opens : List PlacedBox = c.args.opens.now.items in
    let around : Content = c.innermost-around.result in
    let bounded : IsContentWithin (length opens) around = subst (λ (l : List PlacedBox). IsContentWithin (length l) around) c.deref.ensures.value c.innermost-around.ensures.bounded in
    let e = c.content_in.ensures in
    bounded_push opens _ _ c.requires.bounded c.requires.few (inside_bounded (length opens) around c.content_in.result bounded e.low e.high e.left_low e.left_high) c.in_ok-push.ensures.items
