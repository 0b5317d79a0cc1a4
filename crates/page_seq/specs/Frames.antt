-- The frame of a page by a table of pages.
use Rattle.std.specs.Prelude.{◌<◌, ℕ, List, Option, None, Some, length, pos}
use Rattle.std.specs.List.{All}
use Rattle.bk_num.specs.declared.ids.NameId.{NameId}
use Rattle.boxes.specs.Frames.{IsGoodFrame}
use Rattle.boxes.specs.Table.{cell_in, cell_of, row_of}
use Rattle.boxes.specs.declared.frames.Frame.{Frame}
use Rattle.boxes.specs.declared.frames.PageKind.{PageKind}
use Rattle.boxes.specs.declared.table.PageRow.{PageRow}
use Rattle.boxes.specs.declared.table.PageCell.{PageCell}

-- the frame of no page
abbrev pub no_frame : Frame
no_frame = record { left = pos 0; top = pos 0; width = pos 0; height = pos 0 }

-- the frame of a cell, where there is one
abbrev pub frame_in : Option PageCell → Frame
frame_in None = no_frame
frame_in (Some cell) = cell.frame

-- the frame of an index, a name and a kind: the page box less its margins, in the cell that the table has for them
-- (css-page-3, page model)
abbrev pub frame_of : List PageRow → ℕ → NameId → PageKind → Frame
frame_of rows index name kind = frame_in (cell_in (row_of rows name) (cell_of index kind))

-- something holds of each frame of a row
abbrev pub HasCells : (Frame → Type 0) → PageRow → Type 0
HasCells P row = All (λ cell. P cell.frame) row.cells

-- each frame of a row is within the bounds of frames
abbrev pub HasGoodCells : PageRow → Type 0
HasGoodCells row = All (λ cell. IsGoodFrame cell.frame) row.cells

-- there is a row, and each frame of each row is within the bounds of frames
pub record IsGoodTable (rows : List PageRow) : Type 0 where
  pub some : 0 < length rows
  pub cells : All HasGoodCells rows
