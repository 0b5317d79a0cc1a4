-- What is printed, and the bytes of a listing.
use Rattle.std.specs.Prelude.{ℕ, ℤ, List, [], ◌++◌, Option, None, Some, length, slice_get, pos}
use Rattle.std.specs.List.{flat_map, range_with_len}
use Rattle.std.specs.Option.{unwrap_or}
use Rattle.bk_num.specs.declared.ids.NameId.{NameId}
use Rattle.metrics.specs.Face.{FontFace}
use Rattle.boxes.specs.Frames.{side_of}
use Rattle.boxes.specs.declared.flow.Flow.{Flow}
use Rattle.boxes.specs.declared.frames.PageKind.{PageKind}
use Rattle.boxes.specs.declared.item.Item.{Item}
use Rattle.boxes.specs.declared.page.Page.{Page}
use Rattle.boxes.specs.declared.table.PageCell.{PageCell}
use Rattle.listing.specs.Records.{book_record, end_record, item_record, page_record}
use Rattle.margin_box.specs.Margins.{margin_items}
use Rattle.margin_box.specs.Texts.{MarginsOf}
use Rattle.page_ctx.specs.Margins.{MarginStyleOf}
use Rattle.page_seq.specs.Folds.{frames_on}
use Rattle.page_seq.specs.Numbers.{numbers_of}
use Rattle.paint.specs.Pages.{items_of}

-- what is printed: in how many passes page references settled, faces, a flow, its list of frames and how many of them
-- stand on each page, the names of pages by their numbers, and for each index, name and kind the page box, and the
-- style of each margin box
pub record Print : Type 0 where
  pub passes : ℕ
  pub faces : List FontFace
  pub flow : Flow
  pub frames : List Page
  pub per : ℕ
  pub names : List (List ℕ)
  pub cell : ℕ → NameId → PageKind → Option PageCell
  pub style : ℕ → NameId → PageKind → ℕ → Option MarginStyleOf

-- the text of a page's name, which is empty for no name
abbrev pub page_name : List (List ℕ) → NameId → List ℕ
page_name names name = unwrap_or (slice_get names name.0) []

-- the numbers of the pages of a list, by the resets of its flow
abbrev pub page_numbers : Print → List Page → List ℤ
page_numbers p pages = numbers_of p.flow.main pages p.flow.resets

-- what the margin boxes of the pages of a list are printed with
abbrev pub margins_of : Print → List Page → MarginsOf
margins_of p pages = record {
  faces = p.faces;
  flow = p.flow;
  pages = pages;
  numbers = page_numbers p pages;
  cell = p.cell;
  style = p.style;
}

-- the width and the height of a page box
abbrev pub width_of : Option PageCell → ℤ
width_of None = pos 0
width_of (Some cell) = cell.width

-- the height of a page box; 0 where there is none
abbrev pub height_of : Option PageCell → ℤ
height_of None = pos 0
height_of (Some cell) = cell.height

-- a page's record, whose page box and number are these
abbrev pub head_bytes : Print → Page → Option PageCell → ℤ → List ℕ
head_bytes p page cell number =
    page_record page.index number (side_of page.index) page.kind (page_name p.names page.name) (width_of cell)
    (height_of cell)

-- the record of the page at a place of a list
abbrev pub head_at : Print → List Page → ℕ → Page → List ℕ
head_at p pages place page =
    head_bytes p page (p.cell page.index page.name page.kind)
    (unwrap_or (slice_get (page_numbers p pages) place) (pos 0))

-- what stands on the page at a place: the items of each of its frames, in order
abbrev pub items_at : Print → ℕ → List Item
items_at p place = flat_map (items_of p.faces p.flow) (frames_on p.per p.frames place)

-- the page at a place of a list: its record, what stands on it, and the texts of its margin boxes
abbrev pub bytes_on : Print → List Page → ℕ → Page → List ℕ
bytes_on p pages place page =
    head_at p pages place page ++ flat_map item_record (items_at p place)
    ++ flat_map item_record (margin_items (margins_of p pages) place)

-- the bytes of a page, if there is one
abbrev pub bytes_of : Print → List Page → ℕ → Option Page → List ℕ
bytes_of p pages place None = []
bytes_of p pages place (Some page) = bytes_on p pages place page

-- the bytes of the page at a place of a list
unfoldable pub page_bytes : Print → List Page → ℕ → List ℕ
page_bytes p pages place = bytes_of p pages place (slice_get pages place)

-- the listing of a page list
unfoldable pub listing_of : Print → List Page → List ℕ
listing_of p pages =
    book_record (length pages) p.passes ++ flat_map (page_bytes p pages) (range_with_len 0 (length pages)) ++ end_record
