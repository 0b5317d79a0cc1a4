use Rattle.std.proofs.Common.{◌≡◌, ◌<◌, subst, sym}
use Rattle.std.specs.Prelude.{IfErr, OnOk}
use Rattle.dom.specs.Walk.{node_of}
use Rattle.box_gen.specs.declared.inline.BuildErr.TheVariants as answer
use Rattle.box_gen.specs.declared.input.FlowInput.{FlowInput}
use Rattle.box_gen.specs.Sites.{leaf_bytes}
use Rattle.box_gen.specs.Sources.{IsNodeOf, source_in}
use Rattle.box_gen.specs.Steps.{CanStep, walk_in}
use Rattle.box_gen.specs.Walk.{after_step}
use Rattle.box_gen.proofs.InputLemmas.{node-in-note}
use Rattle.box_gen.proofs.notes.pass_body.Goals as goal

pub pass-requires-clause-node : goal.pass-requires-clause-node
pass-requires-clause-node c = subst (λ (i : FlowInput). IsNodeOf i (node_of c.args.step)) (sym c.within_note.ensures.same) (node-in-note c.args.input.now (node_of c.args.step) c.requires.node)

pub pass-requires-clause-can : goal.pass-requires-clause-can
pass-requires-clause-can c = subst (λ (i : FlowInput). CanStep (source_in i) (walk_in i.texts.now.styles.now c.args.body.now) c.args.step) (sym c.within_note.ensures.same) c.requires.can

pub returns-clause-walk : goal.returns-clause-walk
returns-clause-walk c = subst (λ (i : FlowInput). OnOk c.pass.result (walk_in i.texts.now.styles.now c.pass.new.builder ≡ after_step (source_in i) (walk_in i.texts.now.styles.now c.args.body.now) c.args.step)) c.within_note.ensures.same c.pass.ensures.walk

pub returns-clause-cause : goal.returns-clause-cause
returns-clause-cause c = subst (λ (i : FlowInput). IfErr c.pass.result (λ e. e ≡ answer.Text → c.args.body.now.site.room.bytes < leaf_bytes (after_step (source_in i) (walk_in i.texts.now.styles.now c.args.body.now) c.args.step).gathered.built.tree.leaves)) c.within_note.ensures.same c.pass.ensures.cause
