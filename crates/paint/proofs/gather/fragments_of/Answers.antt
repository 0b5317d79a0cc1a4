use Rattle.paint.proofs.PageLemmas.{merged_inner, merged_reached}
use Rattle.paint.proofs.gather.fragments_of.Goals as goal

pub stand_again-from-requires-clause-reached : goal.stand_again-from-requires-clause-reached
stand_again-from-requires-clause-reached c =
    merged_reached c.args.tree.now c.count-count.ensures.tree c.args.origin.now c.args.solids.now c.gather.new.parts.items c.merge.new.parts.items c.in_ok-reached.reached c.in_ok-reached.ensures c.merge.ensures.rest c.merge.ensures.merged

pub stand_again-from-requires-clause-inner : goal.stand_again-from-requires-clause-inner
stand_again-from-requires-clause-inner c =
    merged_inner c.args.tree.now c.args.origin.now.width c.args.solids.now c.gather.new.parts.items c.merge.new.parts.items c.in_ok-reached.reached c.in_ok-reached.ensures c.merge.ensures.rest
