use Rattle.std.proofs.Common.{◌≡◌, length}
use Rattle.match_table.specs.Index.{AreNoted}
use Rattle.match_table.proofs.index.nodes_by_word.Given as goal

abbrev pub invariant-loop-node : goal.invariant-loop-node
invariant-loop-node l = record {
  count : length l.lists.items ≡ length l.words;
  noted : AreNoted l.dom l.words l.lists.items l.node;
}
