-- Columns have no negative width.
use Rattle.std.proofs.Common.{ℕ, ◌-◌, ℤ, pos, ◌≤ℤ◌, ◌-ℤ◌, ◌*ℤ◌, List, arith}
use Rattle.std.specs.Int.{int_max}
use Rattle.std.proofs.lemmas.Int.{ints, clamps}
use Rattle.bk_num.specs.Units.{floor_div}
use Rattle.boxes.specs.Frames.{HaveWidths, page_at}
use Rattle.boxes.specs.declared.table.PageRow.{PageRow}
use Rattle.columns.specs.Columns.{column_frames, column_width}
use Rattle.page_seq.specs.Frames.{frame_of as page_frame_of}

no_less : (count : ℕ) (gap width : ℤ) → pos 0 ≤ℤ column_width count gap width
no_less count gap width = least (floor_div (width -ℤ pos (count - 1) *ℤ gap) count)
  where
    least : (z : ℤ) → pos 0 ≤ℤ int_max (pos 0) z
    least z = omega (arith, ints, clamps)

pub columns_wide : (rows : List PageRow) (count : ℕ) (gap : ℤ) → HaveWidths (column_frames rows count gap)
columns_wide rows count gap index name kind =
    no_less count gap (page_frame_of rows (page_at count index) name kind).width
