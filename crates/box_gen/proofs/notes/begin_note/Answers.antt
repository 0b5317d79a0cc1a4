use Rattle.std.proofs.Common.{◌≡◌, subst, sym}
use Rattle.box_gen.specs.declared.input.FlowInput.{FlowInput}
use Rattle.box_gen.specs.Bodies.{note_begun}
use Rattle.box_gen.specs.Sources.{IsNodeOf, source_in}
use Rattle.box_gen.specs.Steps.{walk_in}
use Rattle.box_gen.proofs.InputLemmas.{node-in-note}
use Rattle.box_gen.proofs.notes.begin_note.Goals as goal

pub note_builder-requires-clause-node : goal.note_builder-requires-clause-node
note_builder-requires-clause-node c = subst (λ (i : FlowInput). IsNodeOf i c.args.node.0) (sym c.within_note.ensures.same) (node-in-note c.args.input.now c.args.node.0 c.requires.node)

pub returns-in-Ok-clause-walk : goal.returns-in-Ok-clause-walk
returns-in-Ok-clause-walk c = subst (λ (i : FlowInput). walk_in i.texts.now.styles.now c.in-Ok.body ≡ note_begun (source_in i) c.args.node.0 c.args.faced.now.style) c.within_note.ensures.same c.in-Ok.ensures.walk
