use Rattle.std.proofs.Common.{◌≡◌, ◌++◌}
use Rattle.std.specs.List.{flat_map, range_with_len}
use Rattle.margin_box.specs.Chosen.{AreChosen}
use Rattle.listing.specs.Printed.{page_bytes}
use Rattle.listing.specs.Printer.{view_of}
use Rattle.listing.proofs.print.add_pages.Given as goal

abbrev pub invariant-loop-place : goal.invariant-loop-place
invariant-loop-place l = record {
  chosen : AreChosen l.printer.faces.now l.printer.styles.now.boxes l.chosen;
  bytes : l.listing.bytes.items ≡ l.fn.listing.bytes.items ++ flat_map (page_bytes (view_of l.printer) l.printer.list.now.pages) (range_with_len 0 l.place);
}
