use Rattle.std.proofs.Common.{◌≡◌, length}
use Rattle.metrics.specs.Table.{AreBegins}
use Rattle.metrics.proofs.face.begin_table.Given as goal

abbrev pub invariant-loop-first : goal.invariant-loop-first
invariant-loop-first l = record {
  size : length l.table.items ≡ l.first;
  known : AreBegins l.lines l.table.items;
}
