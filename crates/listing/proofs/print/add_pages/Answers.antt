use Rattle.listing.specs.Printed.{page_bytes}
use Rattle.listing.specs.Printer.{view_of}
use Rattle.listing.proofs.Printing.{pages_more}
use Rattle.listing.proofs.print.add_pages.Goals as goal

pub loop-place-preserved : goal.loop-place-preserved
loop-place-preserved c =
    let p = c.args.printer.now in
    record {
      chosen = c.in_ok-add_page.ensures.chosen;
      bytes = pages_more (page_bytes (view_of p) p.list.now.pages) _ _ _ c.loop-place.place c.loop-place.invariant.bytes c.in_ok-add_page.ensures.bytes;
    }
