use Rattle.std.proofs.Common.{◌≡◌, ◌++◌, drop}
use Rattle.std.specs.List.{All, flat_map}
use Rattle.paint.specs.Parts.{part_rects}
use Rattle.paint.specs.Views.{HasItemFace, items_in}
use Rattle.paint.proofs.rects.push_parts.Given as goal

abbrev pub invariant-loop-part : goal.invariant-loop-part
invariant-loop-part l = record {
  items : items_in l.canvas.faces.now l.out.items ++ flat_map (part_rects l.canvas.tree.now l.canvas.origin l.from) (drop l.part-index l.parts) ≡ items_in l.canvas.faces.now l.initial.out.items ++ flat_map (part_rects l.canvas.tree.now l.canvas.origin l.from) l.parts;
  faces : All (HasItemFace l.canvas.faces.now) l.out.items;
}
