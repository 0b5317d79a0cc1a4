use Rattle.std.proofs.Common.{◌≡◌, ◌∙◌, Option, Some, slice_get, slice_set, ap, sym}
use Rattle.std.proofs.lemmas.Option.{slice_get-get_or}
use Rattle.boxes.proofs.TreeFacts.{box_good}
use Rattle.boxes.specs.declared.props.BoxProps.{BoxProps}
use Rattle.paint.specs.Clones.{bottom_with, lower_again}
use Rattle.paint.specs.Parts.{foot_in, with_foot}
use Rattle.paint.specs.declared.extent.VerticalExtent.{VerticalExtent}
use Rattle.paint.specs.declared.parts.Fragment.{Fragment}
use Rattle.paint.proofs.again.close_part.Goals as goal

pub props-requires : goal.props-requires
props-requires c = (c.requires.part c.index.result.now (slice_get-get_or c.args.parts.now.items c.args.place _ c.requires.place ∙ ap (λ (x : Fragment). Some x) (sym c.index.ensures))).there

pub foot_of-foot-requires-clause-good : goal.foot_of-foot-requires-clause-good
foot_of-foot-requires-clause-good c = box_good c.args.tree.now c.count-count.ensures.tree c.index.result.now.number c.props.result.now c.props.ensures

pub foot_of-foot-requires-clause-wide : goal.foot_of-foot-requires-clause-wide
foot_of-foot-requires-clause-wide c = (c.requires.part c.index.result.now (slice_get-get_or c.args.parts.now.items c.args.place _ c.requires.place ∙ ap (λ (x : Fragment). Some x) (sym c.index.ensures))).wide

pub foot_of-foot-requires-clause-reach : goal.foot_of-foot-requires-clause-reach
foot_of-foot-requires-clause-reach c = (c.requires.part c.index.result.now (slice_get-get_or c.args.parts.now.items c.args.place _ c.requires.place ∙ ap (λ (x : Fragment). Some x) (sym c.index.ensures))).reach

pub returns-clause-closed : goal.returns-clause-closed
returns-clause-closed c =
    let p : Fragment = c.index.result.now in
    let there : slice_get c.args.parts.now.items c.args.place ≡ Some p = slice_get-get_or c.args.parts.now.items c.args.place _ c.requires.place ∙ ap (λ (x : Fragment). Some x) (sym c.index.ensures) in
    let foot_is : c.foot_of-foot.result ≡ foot_in c.args.tree.now c.args.inner p = c.foot_of-foot.ensures.value ∙ ap (λ (o : Option BoxProps). lower_again o p.around.width c.args.inner p.reach) (sym c.props.ensures) in
    (p, there, c.bottom_with.ensures ∙ ap (bottom_with c.args.inner) foot_is, ap (slice_set c.args.parts.now.items c.args.place) (c.with_foot.ensures ∙ ap (λ (o : Option VerticalExtent). with_foot o p) foot_is))

pub returns-clause-near : goal.returns-clause-near
returns-clause-near c = λ n q at inner x is.
    let p : Fragment = c.index.result.now in
    let there : slice_get c.args.parts.now.items c.args.place ≡ Some p = slice_get-get_or c.args.parts.now.items c.args.place _ c.requires.place ∙ ap (λ (y : Fragment). Some y) (sym c.index.ensures) in
    let two : Some p ≡ Some q = sym there ∙ at in
    let same : p ≡ q = cc in
    let foot_is : c.foot_of-foot.result ≡ foot_in c.args.tree.now c.args.inner p = c.foot_of-foot.ensures.value ∙ ap (λ (o : Option BoxProps). lower_again o p.around.width c.args.inner p.reach) (sym c.props.ensures) in
    c.foot_of-foot.ensures.near n inner x (foot_is ∙ ap (foot_in c.args.tree.now c.args.inner) same ∙ is)
