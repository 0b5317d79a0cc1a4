use Rattle.std.proofs.Common.{◌≡◌, take}
use Rattle.refs.specs.Tables.{table_of}
use Rattle.refs.proofs.shown.shown.Given as goal

abbrev pub invariant-loop-node : goal.invariant-loop-node
invariant-loop-node l = l.entries.items ≡ table_of l.flow l.list.pages (take l.node-index l.nodes)
