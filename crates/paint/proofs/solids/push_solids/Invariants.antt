use Rattle.std.proofs.Common.{◌≡◌, ◌++◌, drop}
use Rattle.std.specs.List.{All, flat_map}
use Rattle.std.specs.Option.{ForSome}
use Rattle.paint.specs.Items.{solid_items}
use Rattle.paint.specs.Opens.{AreOpen}
use Rattle.paint.specs.Views.{HasItemFace, items_in}
use Rattle.paint.proofs.solids.push_solids.Given as goal

abbrev pub invariant-loop-s : goal.invariant-loop-s
invariant-loop-s l = record {
  opens : ForSome l.reached (λ at. AreOpen l.canvas.tree.now l.canvas.origin at l.opens.items);
  items : items_in l.canvas.faces.now l.out.items ++ flat_map (solid_items l.canvas.faces.now l.canvas.tree.now l.canvas.origin) (drop l.s-index l.solids) ≡ items_in l.canvas.faces.now l.initial.out.items ++ flat_map (solid_items l.canvas.faces.now l.canvas.tree.now l.canvas.origin) l.solids;
  faces : All (HasItemFace l.canvas.faces.now) l.out.items;
}
