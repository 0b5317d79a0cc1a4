use Rattle.std.proofs.Common.{subst, arith}
use Rattle.std.specs.List.{flat_map}
use Rattle.std.proofs.lemmas.List.{take_all}
use Rattle.gen_text.specs.References.{Marks, links_by}
use Rattle.gen_text.proofs.MarkLemmas.{parts_turn}
use Rattle.gen_text.proofs.references.mark_parts.Goals as goal

pub loop-part-preserved : goal.loop-part-preserved
loop-part-preserved c = record {
  len = c.mark_part.ensures.len;
  marks = parts_turn c.args.dom.now c.args.styles.now c.args.node.0 c.args.parts.now c.loop-part.part-index c.part-item.result c.args.marks.now c.loop-part.marks c.mark_part.new.marks (omega arith) c.part-item.is c.loop-part.invariant.marks c.mark_part.ensures.marks;
}

pub returns-clause-marks : goal.returns-clause-marks
returns-clause-marks c = subst (λ l. Marks c.args.dom.now c.args.styles.now c.args.node.0 (flat_map links_by l) c.args.marks.now c.loop-part.marks) (take_all c.loop-part.part-index c.args.parts.now (omega arith)) c.loop-part.invariant.marks
