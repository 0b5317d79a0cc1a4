use Rattle.std.proofs.Common.{◌≡◌, ◌≤◌, length}
use Rattle.match_table.specs.Types.{AreFirsts}
use Rattle.match_table.proofs.TypeRanges.{AreKindsOf}
use Rattle.match_table.proofs.TypeLemmas.{AreLasts}
use Rattle.match_table.proofs.types.type_places.Given as goal

abbrev pub invariant-loop-left : goal.invariant-loop-left
invariant-loop-left l = record {
  count : length l.places.items ≡ length l.dom;
  within : l.left ≤ length l.dom;
  firsts : AreFirsts l.dom l.places.items;
  lasts : AreLasts l.dom l.left l.places.items;
  kinds : AreKindsOf l.dom (λ m. l.left ≤ m) l.kinds;
}

abbrev pub decreases-loop-left : goal.decreases-loop-left
decreases-loop-left l = l.left
