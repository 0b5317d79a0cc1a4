use Rattle.std.proofs.Common.{map, arith}
use Rattle.cascade.specs.Selected.{selected_in}
use Rattle.cascade.proofs.ShareLemmas.{chosen-turn, count-turn, none-chosen}
use Rattle.cascade.proofs.winners.winners_by_matches.Goals as goal

pub loop-index-init : goal.loop-index-init
loop-index-init c =
    let none = none-chosen c.args.dom.now (map selected_in c.args.selected.now) c.args.matched.now c.new-all.result c.new-all.ensures in
    record { count = none.1; chosen = none.0 }

pub loop-index-preserved : goal.loop-index-preserved
loop-index-preserved c = record {
  count = count-turn c.args.dom.now (map selected_in c.args.selected.now) c.args.matched.now c.loop-index.index c.loop-index.all.winners c.add_winners.new.all.winners c.loop-index.invariant.count c.in_ok-add_winners.ensures.chosen;
  chosen = chosen-turn c.args.dom.now (map selected_in c.args.selected.now) c.args.matched.now c.loop-index.index c.loop-index.all.winners c.add_winners.new.all.winners c.loop-index.invariant.count c.loop-index.invariant.chosen c.in_ok-add_winners.ensures.chosen;
}

pub returns : goal.returns
returns c =
    let len = c.len-index-end.ensures.len in
    let test = c.loop-index-test.false in
    let most = c.loop-index.auto.index-end in
    let rows = c.loop-index.invariant.count in
    record { count = omega arith; chosen = c.loop-index.invariant.chosen }
