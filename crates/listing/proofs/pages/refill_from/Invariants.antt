use Rattle.std.proofs.Common.{◌≡◌, take}
use Rattle.std.specs.List.{flat_map}
use Rattle.paint.specs.Pages.{items_of}
use Rattle.paint.specs.Views.{HaveItemFaces, items_in}
use Rattle.listing.proofs.pages.refill_from.Given as goal

abbrev pub invariant-loop-frame : goal.invariant-loop-frame
invariant-loop-frame l = record {
  items : items_in l.printer.faces.now l.items.items ≡ flat_map (items_of l.printer.faces.now l.printer.flow.now) (take l.frame-index l.frames);
  faces : HaveItemFaces l.printer.faces.now l.items.items;
}
