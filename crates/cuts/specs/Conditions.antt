-- What is asked where a page is cut.
use Rattle.std.specs.Prelude.{ℕ, ◌<◌, ◌≤◌, List, drop, length}
use Rattle.std.specs.List.{All}
use Rattle.bk_num.specs.Limits.{most_entries}
use Rattle.cuts.specs.Prefixes.{AreJoined}
use Rattle.cuts.specs.Rows.{AreForcedBetween, IsSmallRow}
use Rattle.cuts.specs.declared.row.SolidRow.{SolidRow}

-- one or more solids of a page, whose forced seams stand between blocks, and which from a number on are lines that go
-- on with the leaf of the solid before them
pub record ArePageRows (rows : List SolidRow) (joined : ℕ) : Type 0 where
  pub some : 0 < length rows
  pub few : length rows ≤ most_entries
  pub small : All IsSmallRow rows
  pub between : AreForcedBetween rows
  pub joins : AreJoined (drop joined rows)
