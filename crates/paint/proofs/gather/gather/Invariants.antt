use Rattle.std.proofs.Common.{◌≤◌, length, take}
use Rattle.paint.specs.Parts.{HaveSolids, IsAt}
use Rattle.paint.proofs.GatherLemmas.{IsBehind}
use Rattle.paint.proofs.OrderLemmas.{IsReady}
use Rattle.paint.proofs.gather.gather.Given as goal

abbrev pub invariant-loop-solid : goal.invariant-loop-solid
invariant-loop-solid l = record {
  at : IsAt l.tree l.origin.width l.parts.items l.reached;
  within : l.reached.event ≤ length l.tree.events;
  order : IsReady l.tree l.solids l.solid-index l.reached.event;
  behind : IsBehind l.tree.events (take l.solid-index l.solids) l.reached.event;
  have : HaveSolids l.tree.events (take l.solid-index l.solids) l.parts.items;
}
