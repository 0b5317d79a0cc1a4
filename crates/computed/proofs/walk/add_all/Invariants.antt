use Rattle.std.proofs.Common.{◌≡◌, length}
use Rattle.computed.specs.Names.{names_of}
use Rattle.computed.specs.Walk.{AreNodes}
use Rattle.computed.specs.Alike.{AreFirsts}
use Rattle.computed.proofs.walk.add_all.Given as goal

abbrev pub invariant-loop-index : goal.invariant-loop-index
invariant-loop-index l = record {
  numbered : l.names ≡ names_of l.winners.winners l.styles;
  nodes : AreNodes l.names l.dom l.winners.winners l.styles;
  count : length l.styles ≡ l.index;
  firsts : AreFirsts l.styles l.alike.firsts;
  noted : length l.alike.firsts ≡ l.index;
}
