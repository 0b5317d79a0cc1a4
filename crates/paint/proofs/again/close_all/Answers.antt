use Rattle.std.proofs.Common.{◌<◌, ◌∙◌, ℕ, List, Option, length, slice_get, sym, ap, subst, arith}
use Rattle.std.proofs.lemmas.Option.{slice_get_within}
use Rattle.bk_num.proofs.ListLemmas.{all-from}
use Rattle.paint.specs.Bounds.{IsNearPart}
use Rattle.paint.specs.declared.parts.Fragment.{Fragment}
use Rattle.paint.proofs.ClosingLemmas.{IsClosing, IsNext, closing_start, closing_step, next_left, next_of, next_unclosed, places_left}
use Rattle.paint.proofs.again.close_all.Goals as goal

pub loop-next-init : goal.loop-next-init
loop-next-init c = closing_start c.args.tree.now c.count-count.ensures.tree c.args.origin.now.width c.args.solids.now c.args.parts.now.items c.args.inner c.requires.depth c.requires.near c.requires.reached c.requires.inner c.requires.opened

pub outer_at-next-requires : goal.outer_at-next-requires
outer_at-next-requires c =
    let t = c.args.tree.now in
    let m = c.args.origin.now.width in
    let old : List Fragment = c.args.parts.now.items in
    let now : List Fragment = c.loop-next.parts.items in
    let n : IsNext t m c.args.solids.now old now c.in-Some.place c.loop-next.bottom =
    next_of t c.count-count.ensures.tree m c.args.solids.now old now c.in-Some.place c.loop-next.bottom c.requires.reached (subst (λ (o : Option ℕ). IsClosing t m c.args.solids.now old now o c.loop-next.bottom) c.in-Some.is c.loop-next.invariant) in
    let low = slice_get_within now c.in-Some.place n.part n.there in
    let e = ap (λ (l : List Fragment). length l) c.deref.ensures.value in
    omega arith

pub close_part-bottom-requires-clause-place : goal.close_part-bottom-requires-clause-place
close_part-bottom-requires-clause-place c =
    let t = c.args.tree.now in
    let m = c.args.origin.now.width in
    let old : List Fragment = c.args.parts.now.items in
    let now : List Fragment = c.loop-next.parts.items in
    let n : IsNext t m c.args.solids.now old now c.in-Some.place c.loop-next.bottom =
    next_of t c.count-count.ensures.tree m c.args.solids.now old now c.in-Some.place c.loop-next.bottom c.requires.reached (subst (λ (o : Option ℕ). IsClosing t m c.args.solids.now old now o c.loop-next.bottom) c.in-Some.is c.loop-next.invariant) in
    slice_get_within now c.in-Some.place n.part n.there

pub close_part-bottom-requires-clause-part : goal.close_part-bottom-requires-clause-part
close_part-bottom-requires-clause-part c =
    let t = c.args.tree.now in
    let m = c.args.origin.now.width in
    let old : List Fragment = c.args.parts.now.items in
    let now : List Fragment = c.loop-next.parts.items in
    let n : IsNext t m c.args.solids.now old now c.in-Some.place c.loop-next.bottom =
    next_of t c.count-count.ensures.tree m c.args.solids.now old now c.in-Some.place c.loop-next.bottom c.requires.reached (subst (λ (o : Option ℕ). IsClosing t m c.args.solids.now old now o c.loop-next.bottom) c.in-Some.is c.loop-next.invariant) in
    next_unclosed t c.count-count.ensures.tree m c.args.solids.now old now c.in-Some.place c.loop-next.bottom c.requires.depth c.requires.near n

pub loop-next-smaller : goal.loop-next-smaller
loop-next-smaller c =
    let t = c.args.tree.now in
    let m = c.args.origin.now.width in
    let old : List Fragment = c.args.parts.now.items in
    let now : List Fragment = c.loop-next.parts.items in
    let n : IsNext t m c.args.solids.now old now c.in-Some.place c.loop-next.bottom =
    next_of t c.count-count.ensures.tree m c.args.solids.now old now c.in-Some.place c.loop-next.bottom c.requires.reached (subst (λ (o : Option ℕ). IsClosing t m c.args.solids.now old now o c.loop-next.bottom) c.in-Some.is c.loop-next.invariant) in
    subst (λ (o : Option ℕ). places_left c.outer_at-next.result < places_left o) (sym c.in-Some.is)
    (next_left t m c.args.solids.now old now c.in-Some.place c.loop-next.bottom c.outer_at-next.result n (c.outer_at-next.ensures n.part (ap (λ (l : List Fragment). slice_get l c.in-Some.place) c.deref.ensures.value ∙ n.there)))

pub loop-next-preserved : goal.loop-next-preserved
loop-next-preserved c =
    let t = c.args.tree.now in
    let m = c.args.origin.now.width in
    let old : List Fragment = c.args.parts.now.items in
    let now : List Fragment = c.loop-next.parts.items in
    let n : IsNext t m c.args.solids.now old now c.in-Some.place c.loop-next.bottom =
    next_of t c.count-count.ensures.tree m c.args.solids.now old now c.in-Some.place c.loop-next.bottom c.requires.reached (subst (λ (o : Option ℕ). IsClosing t m c.args.solids.now old now o c.loop-next.bottom) c.in-Some.is c.loop-next.invariant) in
    closing_step t c.count-count.ensures.tree m c.args.solids.now old now c.close_part-bottom.new.parts.items c.in-Some.place c.loop-next.bottom c.close_part-bottom.result c.outer_at-next.result c.requires.reached n c.close_part-bottom.ensures.closed c.close_part-bottom.ensures.near
    (λ p there. c.outer_at-next.ensures p (ap (λ (l : List Fragment). slice_get l c.in-Some.place) c.deref.ensures.value ∙ there))

pub returns-clause-near : goal.returns-clause-near
returns-clause-near c = all-from IsNearPart c.loop-next.parts.items c.loop-next.invariant.near
