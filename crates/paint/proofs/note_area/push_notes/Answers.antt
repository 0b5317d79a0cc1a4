use Rattle.std.proofs.Common.{List, sym, subst}
use Rattle.std.proofs.lemmas.List.Elements.{All-nil, All-push}
use Rattle.std.specs.List.{All}
use Rattle.boxes.specs.declared.page.Placed.{Placed}
use Rattle.notes.specs.Near.{IsNearSolid}
use Rattle.paint.specs.Views.{items_in}
use Rattle.paint.proofs.NoteLemmas.{painted_none, painted_step}
use Rattle.paint.proofs.OrderLemmas.{left_first, left_later, left_most, left_next, part_order}
use Rattle.paint.proofs.note_area.push_notes.Goals as goal

pub loop-number-init : goal.loop-number-init
loop-number-init c = record {
  painted = painted_none c.args.faces.now c.args.notes.now c.args.origin (items_in c.args.faces.now c.args.out.now.items) _ c.new.ensures.items;
  left = left_first c.args.notes.now c.args.placed.now c.requires.order;
  near = subst (All IsNearSolid) (sym c.new.ensures.items) (All-nil IsNearSolid);
  faces = c.requires.faces;
}

pub turn_to-requires-clause-later : goal.turn_to-requires-clause-later
turn_to-requires-clause-later c = left_later c.args.notes.now c.args.placed.now c.loop-number.number-index c.loop-number.group.number _ c.loop-number-test.true c.loop-number.invariant.left

pub turn_to-requires-clause-most : goal.turn_to-requires-clause-most
turn_to-requires-clause-most c = left_most c.args.notes.now c.args.placed.now c.loop-number.number-index c.loop-number.group.number _ c.loop-number-test.true c.loop-number.invariant.left

pub turn_to-requires-clause-solids : goal.turn_to-requires-clause-solids
turn_to-requires-clause-solids c = record {
  near = c.loop-number.invariant.near;
  order = part_order c.args.notes.now c.loop-number.group.number c.loop-number.number-index c.args.placed.now c.loop-number.group.solids.items c.requires.order c.loop-number.invariant.painted.solids_are;
}

pub turn_to-requires-2-clause-solids : goal.turn_to-requires-2-clause-solids
turn_to-requires-2-clause-solids c = record {
  near = c.loop-number.invariant.near;
  order = part_order c.args.notes.now c.loop-number.group.number c.loop-number.number-index c.args.placed.now c.loop-number.group.solids.items c.requires.order c.loop-number.invariant.painted.solids_are;
}

pub loop-number-preserved : goal.loop-number-preserved
loop-number-preserved c =
    let faces = c.args.faces.now in
    let kept : List Placed = c.turn_to.new.group.solids.items in
    let more : List Placed = c.push.new.self.items in
    let pushed = c.in_ok-push.ensures.items in
    record {
      painted = painted_step faces c.args.notes.now c.args.origin (items_in faces c.args.out.now.items) (items_in faces c.loop-number.out.items) (items_in faces c.turn_to.new.out.items) c.args.placed.now c.loop-number.number-index _ c.loop-number.group.number
          c.turn_to.new.group.number c.loop-number.group.solids.items kept more c.loop-number-test.true c.loop-number.invariant.painted c.in_ok-turn_to.ensures.items c.in_ok-turn_to.ensures.number pushed;
      left = left_next c.args.notes.now c.args.placed.now c.loop-number.number-index c.loop-number.group.number c.turn_to.new.group.number _ c.loop-number-test.true c.loop-number.invariant.left c.in_ok-turn_to.ensures.number;
      near = subst (All IsNearSolid) (sym pushed) (All-push IsNearSolid kept _ c.in_ok-turn_to.ensures.solids (c.requires.solids c.loop-number.number-index _ c.loop-number-test.true));
      faces = c.in_ok-turn_to.ensures.faces;
    }
