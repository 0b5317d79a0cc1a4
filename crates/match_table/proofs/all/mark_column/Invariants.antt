use Rattle.std.proofs.Common.{◌≡◌, ◌<◌, length}
use Rattle.match_table.proofs.RowInvariants.{AreGoing}
use Rattle.match_table.proofs.all.mark_column.Given as goal

abbrev pub invariant-loop-node : goal.invariant-loop-node
invariant-loop-node l = record {
  going : AreGoing l.document l.selector (λ n. n < l.node) l.place l.fn.rows.items l.rows.items;
  count : length l.rows.items ≡ length l.fn.rows.items;
}
