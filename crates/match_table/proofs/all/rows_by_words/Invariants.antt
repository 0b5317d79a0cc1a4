use Rattle.std.proofs.Common.{◌≡◌, length, map}
use Rattle.match_table.proofs.RowInvariants.{AreRows}
use Rattle.match_table.proofs.all.rows_by_words.Given as goal

abbrev pub invariant-loop-place : goal.invariant-loop-place
invariant-loop-place l = record {
  rows : AreRows l.document (map (λ s. s.now) l.selectors) l.place l.rows.items;
  count : length l.rows.items ≡ length l.document;
}
