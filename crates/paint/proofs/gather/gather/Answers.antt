use Rattle.std.proofs.Common.{arith}
use Rattle.paint.proofs.GatherLemmas.{behind_step, solids_none, solids_step}
use Rattle.paint.proofs.OrderLemmas.{first_within, ready_first, ready_next, ready_order, ready_within}
use Rattle.paint.proofs.gather.gather.Goals as goal

pub begin-requires-clause-within : goal.begin-requires-clause-within
begin-requires-clause-within c = let low = first_within c.args.tree.now c.args.solids.now c.requires.order in let first = c.first_event.ensures in omega arith

pub loop-solid-init : goal.loop-solid-init
loop-solid-init c = record {
  at = c.in_ok-reached.ensures.at;
  within = (let e = c.in_ok-reached.ensures.event in let low = first_within c.args.tree.now c.args.solids.now c.requires.order in let first = c.first_event.ensures in omega arith);
  order = (let e = c.in_ok-reached.ensures.event in let first = c.first_event.ensures in ready_first c.args.tree.now c.args.solids.now _ c.requires.order (omega arith));
  behind = λ s last. absurd (cc);
  have = solids_none c.args.tree.now.events c.begin.new.parts.items c.in_ok-reached.ensures.none;
}

pub add_solid-requires-clause-within : goal.add_solid-requires-clause-within
add_solid-requires-clause-within c = ready_within c.args.tree.now c.args.solids.now c.loop-solid.solid-index _ _ c.loop-solid-test.true c.loop-solid.invariant.order

pub add_solid-requires-clause-order : goal.add_solid-requires-clause-order
add_solid-requires-clause-order c = ready_order c.args.tree.now c.args.solids.now c.loop-solid.solid-index _ _ c.loop-solid-test.true c.loop-solid.invariant.order

pub loop-solid-preserved : goal.loop-solid-preserved
loop-solid-preserved c = record {
  at = c.in_ok-reached-2.ensures.at;
  within = c.in_ok-reached-2.ensures.within;
  order = ready_next c.args.tree.now c.args.solids.now c.loop-solid.solid-index _ _ _ c.loop-solid-test.true c.loop-solid.invariant.order c.in_ok-reached-2.ensures.event;
  behind = behind_step c.args.tree.now.events c.args.solids.now c.loop-solid.solid-index _ _ c.loop-solid-test.true c.in_ok-reached-2.ensures.event;
  have = solids_step c.args.tree.now.events c.args.solids.now c.loop-solid.solid-index _ c.loop-solid.parts.items c.add_solid.new.parts.items c.loop-solid-test.true c.in_ok-reached-2.ensures.solid c.loop-solid.invariant.have;
}
