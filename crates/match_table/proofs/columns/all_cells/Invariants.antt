use Rattle.std.proofs.Common.{◌≡◌, length}
use Rattle.match_table.specs.Columns.{AreCells}
use Rattle.match_table.proofs.columns.all_cells.Given as goal

abbrev pub invariant-loop-index : goal.invariant-loop-index
invariant-loop-index l = record {
  count : length l.cells.items ≡ l.index;
  cells : AreCells l.document l.selector l.cells.items;
}
