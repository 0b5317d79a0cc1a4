use Rattle.std.proofs.Common.{◌≡◌, length, take}
use Rattle.std.specs.List.{Contains}
use Rattle.match_table.proofs.RowInvariants.{AreGoing}
use Rattle.match_table.proofs.all.mark_listed.Given as goal

abbrev pub invariant-loop-node : goal.invariant-loop-node
invariant-loop-node l = record {
  going : AreGoing l.document l.selector (λ n. Contains (take l.node-index l.nodes) n) l.place l.fn.rows.items l.rows.items;
  count : length l.rows.items ≡ length l.fn.rows.items;
}
