use Rattle.std.proofs.Common.{◌≡◌, ◌≤◌, option_map, drop, take, ◌++◌, length}
use Rattle.dom.specs.Nodes.{parents_of}
use Rattle.dom.specs.Order.{way, way_to}
use Rattle.dom.proofs.OrderLemmas.{IsStep}
use Rattle.dom.proofs.dom.Dom.write_way.Given as goal

abbrev pub invariant-loop-next : goal.invariant-loop-next
invariant-loop-next l = record {
  within : l.place ≤ l.depth;
  size : length l.way ≡ 201;
  here : IsStep l.self l.place (option_map (λ n. n.0) l.next);
  way : way_to l.self l.fn.node.0 ≡ way (parents_of l.self) l.place (option_map (λ n. n.0) l.next) ++ drop l.place (take l.depth l.way);
}

abbrev pub decreases-loop-next : goal.decreases-loop-next
decreases-loop-next l = l.place
