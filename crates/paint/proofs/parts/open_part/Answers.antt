use Rattle.std.proofs.Common.{◌≡◌, ◌∙◌, ◌+ℤ◌, ◌++◌, ◌∷◌, [], ℕ, ℤ, suc, List, Option, Some, length, slice_get, sym, ap, ap₂, subst, arith, to_z, of_z}
use mir.Syntax.{w64}
use Rattle.std.proofs.lemmas.Int.{ints}
use Rattle.bk_num.specs.declared.sides.BoxSide.TheVariants as side
use Rattle.boxes.proofs.TreeFacts.{box_good}
use Rattle.boxes.specs.Clones.{clone_edge}
use Rattle.boxes.specs.Spans.{span_in, span_or}
use Rattle.boxes.specs.Tree.{open_before}
use Rattle.boxes.specs.declared.props.BoxProps.{BoxProps}
use Rattle.boxes.specs.declared.span.Content.{Content}
use Rattle.paint.specs.Opens.{IsContentWithin, content_of, pair_of}
use Rattle.paint.specs.Parts.{content_at, inside_at}
use Rattle.paint.specs.declared.parts.Fragment.{Fragment}
use Rattle.paint.proofs.OpenLemmas.{inside_bounded}
use Rattle.paint.proofs.PartLemmas.{of_fields, part_same, room_more}
use Rattle.paint.proofs.parts.open_part.Goals as goal

pub content_in-requires-clause-good : goal.content_in-requires-clause-good
content_in-requires-clause-good c = box_good c.args.tree.now c.count-count.ensures.tree c.args.number c.props-props.result.now c.props-props.ensures

pub top_edge-requires-clause-good : goal.top_edge-requires-clause-good
top_edge-requires-clause-good c = box_good c.args.tree.now c.count-count.ensures.tree c.args.number c.props-props.result.now c.props-props.ensures

pub returns-clause-part : goal.returns-clause-part
returns-clause-part c =
    let t = c.args.tree.now in
    let p : BoxProps = c.props-props.result.now in
    let around : Content = c.content_at-around.result in
    let outer : Content = content_at c.args.origin.now.width c.args.parts.now.items c.args.inner in
    let around_is : around ≡ outer = c.content_at-around.ensures ∙ ap (λ (ps : List Fragment). content_at c.args.origin.now.width ps c.args.inner) c.deref.ensures.value in
    let content_is : c.content_in.result ≡ content_of (span_or (slice_get t.boxes c.args.number) (pair_of outer)) =
    ap content_of c.content_in.ensures.value ∙ ap (λ (x : Content). content_of (span_in p (pair_of x))) around_is ∙ ap (λ (o : Option BoxProps). content_of (span_or o (pair_of outer))) (sym c.props-props.ensures) in
    let above_is : c.inside_at-above.result ≡ inside_at c.args.parts.now.items c.args.inner = c.inside_at-above.ensures ∙ ap (λ (ps : List Fragment). inside_at ps c.args.inner) c.deref-2.ensures.value in
    let top_is : c.top_edge.result ≡ clone_edge side.Top (slice_get t.boxes c.args.number) outer.width =
    c.top_edge.ensures.value ∙ ap (λ (x : Content). clone_edge side.Top (Some p) x.width) around_is ∙ ap (λ (o : Option BoxProps). clone_edge side.Top o outer.width) (sym c.props-props.ensures) in
    let room = c.requires.above in
    let least = room.0 in
    let most = room.1 in
    let above : ℤ = c.inside_at-above.result in
    let above_exact : to_z w64 (of_z w64 above) ≡ above = omega (arith, ints, least, most, above_is) in
    let inside_exact : to_z w64 (of_z w64 (to_z w64 (of_z w64 above) +ℤ to_z w64 (of_z w64 c.top_edge.result))) ≡ above +ℤ c.top_edge.result = omega (arith, ints, least, most, above_is) in
    c.in_ok-push.ensures.items ∙ ap₂ (λ (x y : ℤ). c.args.parts.now.items ++ of_fields c.args.event c.args.number c.args.inner around c.content_in.result x y ∷ []) above_exact inside_exact
    ∙ ap (λ (x : Fragment). c.args.parts.now.items ++ x ∷ []) (part_same t c.args.origin.now.width c.args.parts.now.items c.args.inner c.args.event c.args.number around c.content_in.result c.inside_at-above.result c.top_edge.result around_is content_is above_is top_is)

pub returns-clause-content : goal.returns-clause-content
returns-clause-content c =
    let t = c.args.tree.now in
    let n : ℕ = length (open_before t.events c.args.event) in
    let p : BoxProps = c.props-props.result.now in
    let around : Content = c.content_at-around.result in
    let inner : Content = c.content_in.result in
    let outer : Content = content_at c.args.origin.now.width c.args.parts.now.items c.args.inner in
    let around_is : around ≡ outer = c.content_at-around.ensures ∙ ap (λ (ps : List Fragment). content_at c.args.origin.now.width ps c.args.inner) c.deref.ensures.value in
    let bounded : IsContentWithin n around = subst (IsContentWithin n) (sym around_is) c.requires.around in
    let e = c.content_in.ensures in
    let is : inner ≡ content_of (span_or (slice_get t.boxes c.args.number) (pair_of outer)) =
    ap content_of e.value ∙ ap (λ (x : Content). content_of (span_in p (pair_of x))) around_is ∙ ap (λ (o : Option BoxProps). content_of (span_or o (pair_of outer))) (sym c.props-props.ensures) in
    subst (IsContentWithin (suc n)) is (inside_bounded n around inner bounded e.low e.high e.left_low e.left_high)

pub returns-clause-inside : goal.returns-clause-inside
returns-clause-inside c =
    let t = c.args.tree.now in
    let p : BoxProps = c.props-props.result.now in
    let around : Content = c.content_at-around.result in
    let outer : Content = content_at c.args.origin.now.width c.args.parts.now.items c.args.inner in
    let around_is : around ≡ outer = c.content_at-around.ensures ∙ ap (λ (ps : List Fragment). content_at c.args.origin.now.width ps c.args.inner) c.deref.ensures.value in
    let top_is : c.top_edge.result ≡ clone_edge side.Top (slice_get t.boxes c.args.number) outer.width =
    c.top_edge.ensures.value ∙ ap (λ (x : Content). clone_edge side.Top (Some p) x.width) around_is ∙ ap (λ (o : Option BoxProps). clone_edge side.Top o outer.width) (sym c.props-props.ensures) in
    room_more (length (open_before t.events c.args.event)) (inside_at c.args.parts.now.items c.args.inner) c.top_edge.result _ c.requires.above c.top_edge.ensures.low c.top_edge.ensures.high top_is
