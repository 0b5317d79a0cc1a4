use Rattle.std.proofs.Common.{◌≡◌, length}
use Rattle.gen_text.specs.References.{MarkedBelow}
use Rattle.gen_text.proofs.references.mark_all.Given as goal

abbrev pub invariant-loop-index : goal.invariant-loop-index
invariant-loop-index l = record {
  len : length l.marks ≡ length l.dom;
  marks : MarkedBelow l.dom l.styles l.index l.marks;
}
