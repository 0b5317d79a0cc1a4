use Rattle.gen_text.proofs.MarkLemmas.{marks_missing, marks_one}
use Rattle.gen_text.proofs.references.mark_target.Goals as goal

pub returns-in-Some-clause-marks : goal.returns-in-Some-clause-marks
returns-in-Some-clause-marks c = marks_one c.args.dom.now c.args.styles.now c.args.node.0 c.args.link.now c.args.marks.now c.in-Some.target.0 c.in_document.ensures.tree (rw c.requires.len c.in-Some.ensures.within) c.in-Some.ensures.target

pub returns-in_default-clause-marks : goal.returns-in_default-clause-marks
returns-in_default-clause-marks c = marks_missing c.args.dom.now c.args.styles.now c.args.node.0 c.args.link.now c.args.marks.now c.in_document.ensures.tree c.in_default.ensures.target
