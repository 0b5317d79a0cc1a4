-- The bounds of page boxes.
use Rattle.std.specs.Prelude.{pos, ◌≤ℤ◌, ◌<◌, ◌^◌, List, length}
use Rattle.std.specs.List.{All}
use Rattle.bk_num.specs.Numbers.{IsWithin}
use Rattle.boxes.specs.Frames.{IsGoodFrame}
use Rattle.boxes.specs.declared.table.PageCell.{PageCell}
use Rattle.boxes.specs.declared.table.PageRow.{PageRow}

-- a page box is from 0 to 2^40 units wide and high, its right and bottom margins are within 2^40, its left one within
-- 2^39, and its frame is within the bounds of frames
pub record IsGoodCell (c : PageCell) : Type 0 where
  pub width_low : pos 0 ≤ℤ c.width
  pub width_high : c.width ≤ℤ pos (2 ^ 40)
  pub height_low : pos 0 ≤ℤ c.height
  pub height_high : c.height ≤ℤ pos (2 ^ 40)
  pub right : IsWithin (2 ^ 40) c.right
  pub bottom : IsWithin (2 ^ 40) c.bottom
  pub left : IsWithin (2 ^ 39) c.frame.left
  pub frame : IsGoodFrame c.frame

-- each page box of a row is within these bounds
abbrev pub AreGoodCells : PageRow → Type 0
AreGoodCells row = All IsGoodCell row.cells

-- there is a row, and each page box of each row is within these bounds
pub record HasGoodRows (rows : List PageRow) : Type 0 where
  pub some : 0 < length rows
  pub cells : All AreGoodCells rows
