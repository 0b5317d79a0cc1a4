-- The records of a page: its own, those of its items, and those of the texts in its margin boxes.
use Rattle.std.specs.Prelude.{ℕ, List, ◌++◌}
use Rattle.std.specs.List.{flat_map}
use Rattle.listing.specs.Records.{item_record, page_record}
use Rattle.listing.specs.declared.records.PageHead.{PageHead}
use Rattle.margin_box.specs.Margins.{items_of}
use Rattle.margin_box.specs.declared.items.MarginText.{MarginText}
use Rattle.metrics.specs.Face.{FontFace}
use Rattle.paint.specs.Views.{items_in}
use Rattle.paint.specs.declared.item.ItemRef.{ItemRef}

-- the record that a page begins with
abbrev pub head_record : PageHead → List ℕ
head_record head = page_record head.index head.number head.side head.kind head.name.now head.width head.height

-- the records of a page: its own, its items, and the texts of its margin boxes
unfoldable pub page_records : List FontFace → PageHead → List ItemRef → List MarginText → List ℕ
page_records faces head items texts =
    head_record head ++ flat_map item_record (items_in faces items) ++ flat_map item_record (items_of faces texts)
