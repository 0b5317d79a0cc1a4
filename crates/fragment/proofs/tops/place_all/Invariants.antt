use Rattle.std.proofs.Common.{◌≡◌, ◌+◌, ◌*◌, ◌^◌, ◌++◌, pos, neg_ℤ, ◌≤ℤ◌, map, drop}
use Rattle.cursor.specs.Fields.{solid_view}
use Rattle.page_list.specs.Cuts.{first_gap, placed_from, placed_below}
use Rattle.fragment.specs.Solids.{foot_from}
use Rattle.fragment.proofs.tops.place_all.Given as goal

abbrev pub invariant-loop-at : goal.invariant-loop-at
invariant-loop-at l = record {
  placed : placed_from (first_gap l.kept (map solid_view l.solids)) (map solid_view l.solids) ≡ l.items.items ++ placed_below l.reach.bottom (drop l.at (map solid_view l.solids));
  foot : l.reach.extent ≡ foot_from (pos 0) l.items.items;
  low : neg_ℤ (pos (2 ^ 33 * l.at + 2 ^ 41)) ≤ℤ l.reach.bottom;
  high : l.reach.bottom ≤ℤ pos (2 ^ 33 * l.at + 2 ^ 41);
  least : pos 0 ≤ℤ l.reach.extent;
  most : l.reach.extent ≤ℤ pos (2 ^ 61);
}
