use Rattle.std.proofs.Common.{◌≡◌, take}
use Rattle.refs.specs.Tables.{opening_of}
use Rattle.refs.proofs.opening.opening.Given as goal

abbrev pub invariant-loop-node : goal.invariant-loop-node
invariant-loop-node l = l.entries.items ≡ opening_of (take l.node-index l.nodes)
