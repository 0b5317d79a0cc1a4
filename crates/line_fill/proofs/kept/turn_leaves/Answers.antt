use Rattle.std.proofs.Common.{◌<◌, length, rules}
use Rattle.line_fill.proofs.TurnLemmas.{turned_more}
use Rattle.line_fill.proofs.kept.turn_leaves.Goals as goal

pub loop-at-preserved : goal.loop-at-preserved
loop-at-preserved c =
    let n = c.loop-at.invariant.long in
    let l : c.loop-at.at < length c.loop-at.leaves.items = search rules in
    turned_more c.args.leaves.now.items c.loop-at.leaves.items c.loop-at.at c.index_mut-kept.result.now c.turn_leaf.new.kept c.loop-at.invariant l c.index_mut-kept.ensures.value c.turn_leaf.ensures
