use Rattle.std.proofs.Common.{◌≡◌, ◌<◌, ◌-◌, length}
use Rattle.std.specs.Prelude.{option_map, IfSome}
use Rattle.selectors.specs.Walk.{first_such, asks, chain, beside}
use Rattle.selectors.proofs.walk.first_such.Given as goal

abbrev pub invariant-steps : goal.invariant-steps
invariant-steps l = record {
  within : IfSome l.left (λ m. m.0 < length l.dom);
  same : first_such (asks l.dom l.ask l.node.0) (chain (beside l.dom l.way) l.steps (option_map (λ n. n.0) l.fn.first)) ≡ first_such (asks l.dom l.ask l.node.0) (chain (beside l.dom l.way) (l.steps - l.turn) (option_map (λ n. n.0) l.left));
}
