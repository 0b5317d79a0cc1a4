-- One column is the frame of its page.
use Rattle.std.specs.Prelude.{◌≡◌, ℤ, List}
use Rattle.boxes.specs.Frames.{PageFrames, meets_by_parity}
use Rattle.boxes.specs.declared.table.PageRow.{PageRow}
use Rattle.columns.specs.Columns.{column_frames}
use Rattle.page_seq.specs.Frames.{IsGoodTable, frame_of as page_frame_of}

-- what a page list reads of a table's frames where each is a page
abbrev pub page_frames : List PageRow → PageFrames
page_frames rows = record { meets = meets_by_parity; frame_of = page_frame_of rows }

-- with one column a page list reads what it reads of the pages themselves, whatever the gap is
abbrev pub OneColumnIsThePage : Type 0
OneColumnIsThePage = (rows : List PageRow) (gap : ℤ) → IsGoodTable rows → column_frames rows 1 gap ≡ page_frames rows
