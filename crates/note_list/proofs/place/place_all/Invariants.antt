use Rattle.std.proofs.Common.{◌≡◌, ◌+◌, ◌*◌, ◌^◌, ◌++◌, drop, pos, neg_ℤ, ◌≤ℤ◌}
use Rattle.bk_num.specs.Limits.{separator}
use Rattle.note_list.specs.Lists.{placed_notes}
use Rattle.note_list.proofs.place.place_all.Given as goal

abbrev pub invariant-loop-at : goal.invariant-loop-at
invariant-loop-at l = record {
  placed : placed_notes separator l.solids ≡ l.items ++ placed_notes l.reach.bottom (drop l.at l.solids);
  low : neg_ℤ (pos (2 ^ 33 * l.at)) ≤ℤ l.reach.bottom;
  high : l.reach.bottom ≤ℤ pos (2 ^ 33 * l.at + 512);
}
