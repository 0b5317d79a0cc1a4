-- The frames of page boxes begin near the left edges of their pages.
use Rattle.std.proofs.Common.{◌≤◌, ◌^◌, suc, ℤ, List, Result, Ok, Err, IfOk, pos, negsuc, ◌≤ℤ◌, unsigned_abs, arith}
use Rattle.std.specs.List.{All}
use Rattle.std.specs.Prelude.{neg_ℤ}
use Rattle.std.proofs.lemmas.Int.{ints}
use Rattle.std.proofs.lemmas.List.Elements.{All-weaker}
use Rattle.bk_num.specs.declared.name.NoMem.{NoMem}
use Rattle.boxes.specs.declared.frames.Frame.{Frame}
use Rattle.boxes.specs.declared.table.PageCell.{PageCell}
use Rattle.boxes.specs.declared.table.PageRow.{PageRow}
use Rattle.columns.specs.Columns.{IsNearFrame}
use Rattle.page_ctx.specs.Bounds.{AreGoodCells, HasGoodRows, IsGoodCell}
use Rattle.page_ctx.specs.Margins.{AreMarginStyles}
use Rattle.page_ctx.specs.Tables.{IsTable}
use Rattle.page_ctx.specs.declared.resolve.PageStyles.{PageStyles}
use Rattle.page_seq.specs.Frames.{HasCells, IsGoodTable}
use Rattle.book.specs.Laid.{AreBoxesOf}
use Rattle.book.specs.declared.styled.Styled.{Styled}

near_bounds : (z : ℤ) → unsigned_abs z ≤ 2 ^ 39 → (neg_ℤ (pos (2 ^ 39)) ≤ℤ z) × (z ≤ℤ pos (2 ^ 39))
near_bounds (pos n) h = let few : n ≤ 2 ^ 39 = h in (omega (arith, ints), omega (arith, ints))
near_bounds (negsuc n) h = let few : suc n ≤ 2 ^ 39 = h in (omega (arith, ints), omega (arith, ints))

near_by : (f : Frame) → (neg_ℤ (pos (2 ^ 39)) ≤ℤ f.left) × (f.left ≤ℤ pos (2 ^ 39)) → IsNearFrame f
near_by f h = record { low = h.0; high = h.1 }

cell_near : (cell : PageCell) → IsGoodCell cell → IsNearFrame cell.frame
cell_near cell good = near_by cell.frame (near_bounds cell.frame.left good.left)

row_near : (row : PageRow) → AreGoodCells row → HasCells IsNearFrame row
row_near row good = All-weaker IsGoodCell (λ (cell : PageCell). IsNearFrame cell.frame) cell_near row.cells good

near_rows : (rows : List PageRow) → HasGoodRows rows → All (HasCells IsNearFrame) rows
near_rows rows good = All-weaker AreGoodCells (HasCells IsNearFrame) row_near rows good.cells

pub boxes_are : (s : Styled) (r : Result PageStyles NoMem) → IfOk r (λ st. IsTable s.rules s.names st.table.rows) → IfOk r (λ st. IsGoodTable st.table.rows) → IfOk r (λ st. AreMarginStyles s.rules s.names st.boxes) → IfOk r (λ st. AreBoxesOf s st)
boxes_are s (Ok st) table good boxes = record { table = table; good = good; near = near_rows st.table.rows st.good; boxes = boxes }
boxes_are s (Err e) table good boxes = tt
