-- Frames side by side on a page (css-multicol-1, 3: the number and width of columns).
use Rattle.std.specs.Prelude.{ℕ, ◌-◌, ◌^◌, ◌≤ℤ◌, ℤ, pos, neg_ℤ, ◌+ℤ◌, ◌-ℤ◌, ◌*ℤ◌, Bool, true, false, List}
use Rattle.std.specs.Int.{int_max}
use Rattle.std.specs.List.{All}
use Rattle.bk_num.specs.Units.{floor_div}
use Rattle.bk_num.specs.declared.ids.NameId.{NameId}
use Rattle.boxes.specs.Frames.{IsPerPage, PageFrames, column_at, meets_by, page_at}
use Rattle.boxes.specs.declared.frames.Demand.{Demand}
use Rattle.boxes.specs.declared.frames.Demand.TheVariants.{Column, Page, Left, Right}
use Rattle.boxes.specs.declared.frames.Frame.{Frame}
use Rattle.boxes.specs.declared.frames.PageKind.{PageKind}
use Rattle.boxes.specs.declared.table.PageRow.{PageRow}
use Rattle.page_seq.specs.Frames.{HasCells, IsGoodTable, frame_of as page_frame_of}

-- the width of each column of a frame: what the gaps between them leave, in as many parts, rounded down, at least 0
abbrev pub column_width : ℕ → ℤ → ℤ → ℤ
column_width count gap width = int_max (pos 0) (floor_div (width -ℤ pos (count - 1) *ℤ gap) count)

-- the column of a frame at a place from its left, from 0
abbrev pub column_of : ℕ → ℤ → Frame → ℕ → Frame
column_of count gap f place = record {
  left = f.left +ℤ pos place *ℤ (column_width count gap f.width +ℤ gap);
  top = f.top;
  width = column_width count gap f.width;
  height = f.height;
}

-- the frame of an index, a name and a kind: a column of the frame of its page
abbrev pub frame_of : List PageRow → ℕ → ℤ → ℕ → NameId → PageKind → Frame
frame_of rows count gap index name kind =
    column_of count gap (page_frame_of rows (page_at count index) name kind) (column_at count index)

-- what a page list reads of the columns of a table's frames
abbrev pub column_frames : List PageRow → ℕ → ℤ → PageFrames
column_frames rows count gap = record { meets = meets_by count; frame_of = frame_of rows count gap }

-- a column is free, as each frame is one; no page and no side is
abbrev pub is_free_column : Demand → Bool
is_free_column Column = true
is_free_column Page = false
is_free_column Left = false
is_free_column Right = false

-- the left of a frame is within 2^39 units
pub record IsNearFrame (f : Frame) : Type 0 where
  pub low : neg_ℤ (pos (2 ^ 39)) ≤ℤ f.left
  pub high : f.left ≤ℤ pos (2 ^ 39)

-- from 1 to 8 columns, gaps from 0 to 64,000 units, and frames whose columns keep the bounds of frames
pub record AreColumns (rows : List PageRow) (count : ℕ) (gap : ℤ) : Type 0 where
  pub table : IsGoodTable rows
  pub near : All (HasCells IsNearFrame) rows
  pub per : IsPerPage count
  pub gap_low : pos 0 ≤ℤ gap
  pub gap_high : gap ≤ℤ pos 64000
