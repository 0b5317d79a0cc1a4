use Rattle.std.proofs.Common.{◌≡◌, ◌<◌, ◌∙◌, ℕ, false, List, length, sym, ap, subst}
use Rattle.std.specs.List.{All, flat_map, list_any}
use Rattle.bk_num.proofs.ListLemmas.{all-from}
use Rattle.boxes.specs.Tree.{Tree}
use Rattle.paint.specs.Bounds.{IsNearPart}
use Rattle.paint.specs.Parts.{clones_at, part_rects}
use Rattle.paint.specs.declared.parts.Fragment.{Fragment}
use Rattle.paint.proofs.GatherLemmas.{opened_same}
use Rattle.paint.proofs.OrderLemmas.{order_stands}
use Rattle.paint.proofs.PageLemmas.{closed_rects, reached_boxes, reached_near}
use Rattle.paint.proofs.SlicedLemmas.{sliced_rects}
use Rattle.paint.proofs.again.stand_again.Goals as goal

pub any_clones-requires : goal.any_clones-requires
any_clones-requires c = subst (All (λ (p : Fragment). p.number < length c.args.tree.now.boxes)) (sym c.deref.ensures.value) (reached_boxes c.args.tree.now c.count-count.ensures.tree c.args.origin.now.width c.args.parts.now.items c.requires.reached.met.opened)

pub close_again-requires-clause-stand : goal.close_again-requires-clause-stand
close_again-requires-clause-stand c = order_stands c.args.tree.now 0 c.args.solids.now c.requires.order

pub begin_of-requires : goal.begin_of-requires
begin_of-requires c = order_stands c.args.tree.now 0 c.args.solids.now c.requires.order

pub returns-then-any_clones-clause-rects : goal.returns-then-any_clones-clause-rects
returns-then-any_clones-clause-rects c =
    let t : Tree = c.args.tree.now in
    let o = c.args.origin.now in
    ap (λ (k : ℕ). flat_map (part_rects t o k) c.close_again.new.parts.items) c.begin_of.ensures ∙ closed_rects t c.count-count.ensures.tree o c.args.solids.now c.args.parts.now.items c.close_again.new.parts.items c.requires.order c.requires.reached c.close_again.ensures.closed

pub returns-then-any_clones-clause-there : goal.returns-then-any_clones-clause-there
returns-then-any_clones-clause-there c =
    let t : Tree = c.args.tree.now in
    reached_boxes t c.count-count.ensures.tree c.args.origin.now.width c.close_again.new.parts.items (opened_same t c.args.origin.now.width c.args.parts.now.items c.close_again.new.parts.items c.close_again.ensures.closed.places c.requires.reached.met.opened)

pub returns-clause-rects : goal.returns-clause-rects
returns-clause-rects c =
    let t : Tree = c.args.tree.now in
    sliced_rects t c.count-count.ensures.tree c.args.origin.now c.args.solids.now c.args.parts.now.items 0 c.requires.order c.requires.reached
    (subst (λ (l : List Fragment). list_any (λ p. clones_at t p.number) l ≡ false) c.deref.ensures.value (sym c.any_clones.ensures ∙ c.if-any_clones.false))

pub returns-clause-there : goal.returns-clause-there
returns-clause-there c = reached_boxes c.args.tree.now c.count-count.ensures.tree c.args.origin.now.width c.args.parts.now.items c.requires.reached.met.opened

pub returns-clause-near : goal.returns-clause-near
returns-clause-near c = all-from IsNearPart c.args.parts.now.items (reached_near c.args.tree.now c.count-count.ensures.tree c.args.origin.now.width c.args.solids.now c.args.parts.now.items c.requires.depth c.requires.near c.requires.reached)
