use Rattle.std.proofs.Common.{◌≡◌, length, take}
use Rattle.std.specs.List.{flat_map}
use Rattle.gen_text.specs.References.{Marks, links_by}
use Rattle.gen_text.proofs.references.mark_parts.Given as goal

abbrev pub invariant-loop-part : goal.invariant-loop-part
invariant-loop-part l = record {
  len : length l.marks ≡ length l.dom;
  marks : Marks l.dom l.styles l.node.0 (flat_map links_by (take l.part-index l.parts)) l.fn.marks l.marks;
}
