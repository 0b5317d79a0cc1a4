use Rattle.std.proofs.Common.{length, ap, arith}
use Rattle.box_gen.specs.declared.put.TreeRoom.{TreeRoom}
use Rattle.box_gen.specs.Sources.{source_in}
use Rattle.box_gen.specs.Steps.{walk_in}
use Rattle.box_gen.specs.Walk.{Walk}
use Rattle.box_gen.proofs.EventSums.{step-few}
use Rattle.box_gen.proofs.notes.pass_outside.Goals as goal

pub begin_note-requires-clause-room : goal.begin_note-requires-clause-room
begin_note-requires-clause-room c =
    let is = ap (λ (w : Walk). length w.gathered.built.tree.events) c.in_ok-pass.ensures.walk in
    let few = step-few (source_in c.args.input.now) (walk_in c.args.input.now.texts.now.styles.now c.args.main.now) c.args.step in
    let same = ap (λ (r : TreeRoom). r.events) c.in_ok-pass.ensures.room in
    let left = c.requires.site.room.left in
    omega (arith, is, few, same, left)
