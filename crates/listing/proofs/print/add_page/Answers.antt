use Rattle.std.proofs.Common.{◌≡◌, ◌∙◌, List, Some, slice_get, sym, ap}
use Rattle.boxes.specs.declared.page.Page.{Page}
use Rattle.margin_box.specs.declared.items.MarginText.{MarginText}
use Rattle.paint.specs.declared.item.ItemRef.{ItemRef}
use Rattle.listing.specs.Pages.{page_records}
use Rattle.listing.specs.Printed.{page_bytes}
use Rattle.listing.specs.Printer.{view_of}
use Rattle.listing.proofs.Printing.{kept_page, printed_is}
use Rattle.listing.proofs.print.add_page.Goals as goal

pub returns-clause-bytes : goal.returns-clause-bytes
returns-clause-bytes c =
    let p = c.args.printer.now in
    let faces = p.faces.now in
    let pages = p.list.now.pages in
    let page = c.page_at-page.result.now in
    let head = c.head_of-head.result in
    let items : List ItemRef = c.refill_items.new.items.items in
    let texts : List MarginText = c.in_ok-texts.texts.items in
    let written_items : List ItemRef = c.as_slice-2.result.now in
    let written_texts : List MarginText = c.as_slice-3.result.now in
    let stands : slice_get pages c.args.place ≡ Some page = ap (λ (ps : List Page). slice_get ps c.args.place) (sym c.as_slice.ensures) ∙ c.page_at-page.ensures in
    let records : page_records faces head written_items written_texts ≡ page_bytes (view_of p) pages c.args.place =
    ap (λ (is : List ItemRef). page_records faces head is written_texts) c.as_slice-2.ensures.value ∙
    ap (λ (ts : List MarginText). page_records faces head items ts) c.as_slice-3.ensures.value ∙
    printed_is (view_of p) pages c.args.place page head items texts stands c.head_of-head.ensures c.in_ok-refill_items.ensures.items c.in_ok-texts.ensures.items
    in
    kept_page c.kept.result c.write_page.result c.args.listing.now.bytes.items c.write_page.new.sink.bytes.items (page_records faces head written_items written_texts)
    (page_bytes (view_of p) pages c.args.place) c.kept.ensures c.write_page.ensures.bytes records
