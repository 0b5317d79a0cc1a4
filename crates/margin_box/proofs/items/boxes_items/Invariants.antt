use Rattle.std.proofs.Common.{◌≡◌, ◌++◌, ◌-◌}
use Rattle.std.specs.List.{All, flat_map, range_with_len}
use Rattle.margin_box.specs.Margins.{HasFace, box_items, boxes_items, items_of, margins_in}
use Rattle.margin_box.proofs.items.boxes_items.Given as goal

abbrev pub invariant-loop-place : goal.invariant-loop-place
invariant-loop-place l = record {
  faces : All (HasFace l.margins.faces.now) l.items.items;
  items : items_of l.margins.faces.now l.items.items ++ flat_map (box_items (margins_in l.margins) l.number l.page l.areas) (range_with_len l.place (16 - l.place)) ≡ boxes_items (margins_in l.margins) l.number l.page l.areas;
}
