use Rattle.std.proofs.Common.{◌<◌, Option, map, arith, subst, sym}
use Rattle.std.proofs.lemmas.Result.{err_from_is_err_and}
use Rattle.bk_num.specs.Limits.{most_text_bytes}
use Rattle.boxes.specs.Tree.{Tree}
use Rattle.box_gen.specs.declared.builder.FlowBuilder.{FlowBuilder}
use Rattle.box_gen.specs.declared.notes.Walker.{Walker}
use Rattle.box_gen.specs.Bodies.{after_both, noted, walks}
use Rattle.box_gen.specs.Sites.{built_in, leaf_bytes}
use Rattle.box_gen.specs.Sources.{source_in}
use Rattle.box_gen.specs.Steps.{walk_in}
use Rattle.box_gen.specs.Walkers.{IsBody, all_bytes, body_in}
use Rattle.box_gen.proofs.EventSums.{body-room, main-room}
use Rattle.box_gen.proofs.NoteSums.{sites-sum}
use Rattle.box_gen.proofs.RoomLemmas.{inside-cause}
use Rattle.box_gen.proofs.notes.pass_all.Goals as goal

pub pass_inside-requires-clause-body : goal.pass_inside-requires-clause-body
pass_inside-requires-clause-body c = c.requires.sound.body c.in-Some.inside (sym c.in-Some.ensures.value)

pub pass_outside-requires-clause-site : goal.pass_outside-requires-clause-site
pass_outside-requires-clause-site c = record {
  within = c.requires.sound.shared.within;
  room = main-room c.args.input.now.texts.now.styles.now c.args.walker.now c.requires.sound c.requires.room;
}

pub pass_inside-requires-clause-room : goal.pass_inside-requires-clause-room
pass_inside-requires-clause-room c =
    let b : FlowBuilder = c.in-Some.inside in
    body-room c.args.input.now.texts.now.styles.now c.args.walker.now b (sym c.in-Some.ensures.value) (c.requires.sound.body b (sym c.in-Some.ensures.value)) c.requires.sound c.requires.room

pub returns-in_err-body-in-Some-clause-cause : goal.returns-in_err-body-in-Some-clause-cause
returns-in_err-body-in-Some-clause-cause c =
    let src = source_in c.args.input.now in
    let styles = c.args.input.now.texts.now.styles.now in
    let w : Walker = c.args.walker.now in
    let b : FlowBuilder = c.in-Some.inside in
    let body : IsBody w.main b = c.requires.sound.body b (sym c.in-Some.ensures.value) in
    let room = body.bytes in
    let count = c.requires.sound.shared.within.bytes.count in
    let sum = c.requires.sound.shared.bytes in
    let sites = sites-sum (λ (t : Tree). leaf_bytes t.leaves) w.bodies.items in
    let p = err_from_is_err_and c.from_residual-in_err-body-in-Some.result c.from_residual-in_err-body-in-Some.ensures.1 in
    rw (p.1, p.2) (λ e. subst (λ (o : Option FlowBuilder). most_text_bytes < all_bytes (after_both src (walks (walk_in styles w.main) (noted (body_in styles o) (map built_in w.bodies.items))) c.args.step)) c.in-Some.ensures.value
    (inside-cause src (walk_in styles w.main) (walk_in styles b) (map built_in w.bodies.items) c.args.step b.site.room.bytes (omega (arith, room, count, sum, sites)) (c.in_err-body-in-Some.ensures.cause e)))
