use Rattle.std.proofs.Common.{◌≡◌, ◌∙◌, ◌<◌, ℕ, ◌∷◌, [], ◌++◌, map, ap, sym, subst}
use Rattle.std.proofs.lemmas.List.{map-append}
use Rattle.std.proofs.lemmas.Result.{err_from_is_err_and}
use Rattle.dom.specs.Walk.{node_of}
use Rattle.box_gen.specs.Bodies.{note_ended}
use Rattle.box_gen.specs.Flow.{Built, last_items}
use Rattle.box_gen.specs.Gather.{adds}
use Rattle.box_gen.specs.Sites.{built_in, leaf_bytes}
use Rattle.box_gen.specs.Sources.{source_in}
use Rattle.box_gen.specs.Steps.{CanEnd, walk_in}
use Rattle.box_gen.specs.Trees.{in_note}
use Rattle.box_gen.specs.Walk.{innermost}
use Rattle.box_gen.proofs.notes.end_inside.Goals as goal

pub end_note-requires-clause-can : goal.end_note-requires-clause-can
end_note-requires-clause-can c =
    let src = in_note (source_in c.args.input.now) in
    let b = walk_in c.args.input.now.texts.now.styles.now c.args.body in
    subst (λ (n : ℕ). CanEnd src (innermost b.blocks) (adds (last_items src n) b.gathered)) (sym c.node_in.ensures) c.requires.can

pub returns-clause-bodies : goal.returns-clause-bodies
returns-clause-bodies c =
    let src = in_note (source_in c.args.input.now) in
    let b = walk_in c.args.input.now.texts.now.styles.now c.args.body in
    let e : built_in c.in_ok-site.site ≡ note_ended src (node_of c.args.step) b = c.in_ok-site.ensures.built ∙ ap (λ (n : ℕ). note_ended src n b) c.node_in.ensures in
    ap (map built_in) c.in-Ok.ensures.bodies ∙ map-append built_in c.args.bodies.now.items (c.in_ok-site.site ∷ []) ∙ ap (λ (x : Built). map built_in c.args.bodies.now.items ++ x ∷ []) e

pub returns-in_err-site-clause-cause : goal.returns-in_err-site-clause-cause
returns-in_err-site-clause-cause c =
    let src = in_note (source_in c.args.input.now) in
    let b = walk_in c.args.input.now.texts.now.styles.now c.args.body in
    let p = err_from_is_err_and c.from_residual.result c.from_residual.ensures.1 in
    rw (p.1, p.2) (λ e. subst (λ (n : ℕ). c.args.body.site.room.bytes < leaf_bytes (note_ended src n b).tree.leaves) c.node_in.ensures (c.in_err-site.ensures.cause e))
