use Rattle.std.proofs.Common.{◌≡◌, ◌++◌, [], Some, map, drop, slice_get}
use Rattle.std.specs.List.{All}
use Rattle.page_ctx.specs.Bounds.{AreGoodCells}
use Rattle.page_ctx.specs.Tables.{row_by, texts_of}
use Rattle.page_ctx.specs.Margins.{boxes_of_name, cells_in, filled}
use Rattle.page_ctx.proofs.resolve.rows_by.Given as goal

abbrev pub invariant-loop-number : goal.invariant-loop-number
invariant-loop-number l =
    (l.rows.table ++ map (row_by l.rules.index.rules.now) (drop l.number l.names) ≡ map (row_by l.rules.index.rules.now) (texts_of l.names))
    × (filled (map cells_in l.rows.boxes) ++ map (boxes_of_name l.rules.index.rules.now) (drop l.number l.names) ≡ map (boxes_of_name l.rules.index.rules.now) (texts_of l.names))
    × All AreGoodCells l.rows.table
    × (slice_get (map cells_in l.rows.boxes) 0 ≡ Some (boxes_of_name l.rules.index.rules.now []))
