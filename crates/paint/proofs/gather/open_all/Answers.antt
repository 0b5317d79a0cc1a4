use Rattle.std.proofs.Common.{◌≡◌, ◌<◌, ◌-◌, ◌∷◌, [], ◌++◌, ◌∙◌, ℕ, suc, List, Option, length, drop, get_or, sym, ap, subst, arith}
use Rattle.std.proofs.Math.Seq.{drop-cons}
use Rattle.bk_num.specs.Numbers.{last_of}
use Rattle.paint.specs.Parts.{IsRoomOf, content_at, inside_at, part_in}
use Rattle.paint.specs.declared.parts.Fragment.{Fragment}
use Rattle.boxes.specs.Tree.{open_before}
use Rattle.paint.specs.Opens.{IsContentWithin}
use Rattle.paint.proofs.PartLemmas.{ArePartBounds, IsStarted, chain_there, room_before, started_all, started_bounded, started_inside, started_none, started_step}
use Rattle.paint.proofs.gather.open_all.Goals as goal

pub loop-left-init : goal.loop-left-init
loop-left-init c = record { within = omega arith; started = started_none c.args.tree.now c.args.origin.now.width c.args.chain.now c.args.parts.now.items c.requires.none }

pub opens_at-requires : goal.opens_at-requires
opens_at-requires c =
    let chain : List ℕ = c.args.chain.now in
    let left : ℕ = c.loop-left.left - 1 in
    let low : left < length chain = (let w = c.loop-left.invariant.within in omega arith) in
    chain_there c.args.tree.now c.count-count.ensures.tree c.args.event left _ chain (drop (suc left) chain) c.requires.within c.requires.chain (drop-cons chain left 0 low)

pub open_part-requires-clause-number : goal.open_part-requires-clause-number
open_part-requires-clause-number c =
    let chain : List ℕ = c.args.chain.now in
    let left : ℕ = c.loop-left.left - 1 in
    let low : left < length chain = (let w = c.loop-left.invariant.within in omega arith) in
    chain_there c.args.tree.now c.count-count.ensures.tree c.args.event left _ chain (drop (suc left) chain) c.requires.within c.requires.chain (drop-cons chain left 0 low)

pub open_part-requires-clause-few : goal.open_part-requires-clause-few
open_part-requires-clause-few c = room_before c.args.tree.now.events c.opens_at.result _ c.requires.depth c.opens_at.ensures

pub open_part-requires-clause-around : goal.open_part-requires-clause-around
open_part-requires-clause-around c =
    let t = c.args.tree.now in
    let m = c.args.origin.now.width in
    let chain : List ℕ = c.args.chain.now in
    let parts : List Fragment = c.loop-left.parts.items in
    let left : ℕ = c.loop-left.left - 1 in
    let next : c.loop-left.left ≡ suc left = omega arith in
    let low : left < length chain = (let w = c.loop-left.invariant.within in omega arith) in
    let inner : c.last_of-inner.result ≡ last_of (length parts) = c.last_of-inner.ensures.value ∙ ap last_of (c.len.ensures ∙ c.loop-left.parts.ok.0) in
    subst (λ (o : Option ℕ). IsContentWithin (length (open_before t.events c.opens_at.result)) (content_at m parts o)) (sym inner)
    (started_bounded t c.count-count.ensures.tree c.args.origin.now c.args.event left c.opens_at.result _ chain parts c.requires.origin c.requires.within c.requires.chain (drop-cons chain left 0 low) c.opens_at.ensures (subst (λ (n : ℕ). IsStarted t m chain n parts) next c.loop-left.invariant.started))

pub open_part-requires-clause-above : goal.open_part-requires-clause-above
open_part-requires-clause-above c =
    let t = c.args.tree.now in
    let m = c.args.origin.now.width in
    let chain : List ℕ = c.args.chain.now in
    let parts : List Fragment = c.loop-left.parts.items in
    let left : ℕ = c.loop-left.left - 1 in
    let next : c.loop-left.left ≡ suc left = omega arith in
    let low : left < length chain = (let w = c.loop-left.invariant.within in omega arith) in
    let inner : c.last_of-inner.result ≡ last_of (length parts) = c.last_of-inner.ensures.value ∙ ap last_of (c.len.ensures ∙ c.loop-left.parts.ok.0) in
    subst (λ (o : Option ℕ). IsRoomOf (length (open_before t.events c.opens_at.result)) (inside_at parts o)) (sym inner)
    (started_inside t c.count-count.ensures.tree m c.args.event left c.opens_at.result _ chain parts c.requires.within c.requires.chain (drop-cons chain left 0 low) c.opens_at.ensures (subst (λ (n : ℕ). IsStarted t m chain n parts) next c.loop-left.invariant.started))

pub loop-left-preserved : goal.loop-left-preserved
loop-left-preserved c =
    let t = c.args.tree.now in
    let m = c.args.origin.now.width in
    let chain : List ℕ = c.args.chain.now in
    let parts : List Fragment = c.loop-left.parts.items in
    let left : ℕ = c.loop-left.left - 1 in
    let next : c.loop-left.left ≡ suc left = omega arith in
    let low : left < length chain = (let w = c.loop-left.invariant.within in omega arith) in
    let b : ℕ = get_or chain left 0 in
    let inner : c.last_of-inner.result ≡ last_of (length parts) = c.last_of-inner.ensures.value ∙ ap last_of (c.len.ensures ∙ c.loop-left.parts.ok.0) in
    let pushed : c.open_part.new.parts.items ≡ parts ++ part_in t m parts (last_of (length parts)) c.opens_at.result b ∷ [] = c.in_ok-open_part.ensures.part ∙ ap (λ o. parts ++ part_in t m parts o c.opens_at.result b ∷ []) inner in
    let around : IsContentWithin (length (open_before t.events c.opens_at.result)) (content_at m parts (last_of (length parts))) =
    started_bounded t c.count-count.ensures.tree c.args.origin.now c.args.event left c.opens_at.result b chain parts c.requires.origin c.requires.within c.requires.chain (drop-cons chain left 0 low) c.opens_at.ensures (subst (λ (n : ℕ). IsStarted t m chain n parts) next c.loop-left.invariant.started) in
    let bounds : ArePartBounds t m parts (last_of (length parts)) c.opens_at.result b = record {
      around = around;
      content = subst (λ (o : Option ℕ). IsContentWithin (suc (length (open_before t.events c.opens_at.result))) (part_in t m parts o c.opens_at.result b).content) inner c.in_ok-open_part.ensures.content;
      above =
          started_inside t c.count-count.ensures.tree m c.args.event left c.opens_at.result b chain parts c.requires.within c.requires.chain (drop-cons chain left 0 low) c.opens_at.ensures (subst (λ (n : ℕ). IsStarted t m chain n parts) next c.loop-left.invariant.started);
      inside = subst (λ (o : Option ℕ). IsRoomOf (suc (length (open_before t.events c.opens_at.result))) (part_in t m parts o c.opens_at.result b).inside) inner c.in_ok-open_part.ensures.inside;
    } in
    record {
      within = omega arith;
      started = started_step t c.count-count.ensures.tree m c.args.event left c.opens_at.result b chain parts c.open_part.new.parts.items c.requires.within c.requires.chain (drop-cons chain left 0 low) c.opens_at.ensures pushed bounds
          (subst (λ (n : ℕ). IsStarted t m chain n parts) next c.loop-left.invariant.started);
    }

pub returns-clause-at : goal.returns-clause-at
returns-clause-at c =
    let left : c.loop-left.left ≡ 0 = (let f = c.loop-left-test.false in omega arith) in
    started_all c.args.tree.now c.args.origin.now.width c.args.event c.args.chain.now c.loop-left.parts.items c.requires.within c.requires.chain
    (subst (λ (n : ℕ). IsStarted c.args.tree.now c.args.origin.now.width c.args.chain.now n c.loop-left.parts.items) left c.loop-left.invariant.started)
