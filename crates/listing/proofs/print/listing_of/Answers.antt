use Rattle.listing.specs.Printer.{view_of}
use Rattle.listing.specs.Records.{book_record, end_record}
use Rattle.listing.proofs.Printing.{kept_whole, listing_parts}
use Rattle.listing.proofs.print.listing_of.Goals as goal

pub returns : goal.returns
returns c =
    let p = c.args.printer.now in
    let count = c.count_of.result in
    let none = c.new-listing.result.bytes.items in
    let head = c.write_head.new.sink.bytes.items in
    let body = c.add_pages.new.listing.bytes.items in
    let whole = c.write_end.new.sink.bytes.items in
    listing_parts (view_of p) p.list.now.pages count none head body whole c.count_of.ensures c.new-listing.ensures
    (kept_whole c.write_head.result none head (book_record count p.passes) c.in_ok-kept.ensures c.write_head.ensures.bytes) c.in_ok-add_pages.ensures
    (kept_whole c.write_end.result body whole end_record c.in_ok-kept-2.ensures c.write_end.ensures.bytes)
