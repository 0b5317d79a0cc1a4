use Rattle.std.proofs.Common.{◌≡◌, length, map}
use Rattle.cascade.specs.Selected.{selected_in}
use Rattle.cascade.specs.Sharing.{AreChosenAt}
use Rattle.cascade.proofs.winners.winners_by_matches.Given as goal

abbrev pub invariant-loop-index : goal.invariant-loop-index
invariant-loop-index l = record {
  count : length l.all.winners ≡ l.index;
  chosen : AreChosenAt l.dom (map selected_in l.selected) l.matched l.all.winners;
}
