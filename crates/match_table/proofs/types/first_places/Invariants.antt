use Rattle.std.proofs.Common.{◌≡◌, ◌<◌, length}
use Rattle.match_table.specs.Types.{AreFirsts}
use Rattle.match_table.proofs.TypeRanges.{AreKindsOf}
use Rattle.match_table.proofs.types.first_places.Given as goal

abbrev pub invariant-loop-node : goal.invariant-loop-node
invariant-loop-node l = record {
  count : length l.places.items ≡ l.node;
  firsts : AreFirsts l.dom l.places.items;
  kinds : AreKindsOf l.dom (λ m. m < l.node) l.kinds;
}
