use Rattle.std.proofs.Common.{◌≡◌, ◌∙◌, ◌<◌, ◌∷◌, List, [], true, length, ap, subst, arith, length-append}
use Rattle.std.proofs.lemmas.Result.{err_from_is_err_and}
use Rattle.boxes.specs.declared.place.Event.TheVariants.{Opens}
use Rattle.metrics.specs.Face.{FontFace}
use Rattle.style.specs.declared.style.Style.{Style}
use Rattle.box_gen.specs.Items.{InlineItem}
use Rattle.bk_num.specs.declared.ids.NodeId.{NodeId}
use Rattle.box_gen.specs.Faces.{face_of}
use Rattle.box_gen.specs.Flow.{Built, put, with_run}
use Rattle.box_gen.specs.Leaves.{leaf_style_of}
use Rattle.box_gen.specs.Props.{anonymous_props}
use Rattle.box_gen.specs.Steps.{styles_of}
use Rattle.box_gen.specs.Walk.{innermost}
use Rattle.box_gen.specs.Sites.{built_in, leaf_bytes}
use Rattle.box_gen.specs.Sources.{source_in}
use Rattle.box_gen.proofs.RoomLemmas.{events-run, within-step}
use Rattle.box_gen.proofs.builder.enter_block.Goals as goal

pub returns-clause-within : goal.returns-clause-within
returns-clause-within c =
    let src = source_in c.args.input.now in
    let site = c.put_run.new.site in
    let s : Style = c.innermost-around.result.now.style in
    let before : Built = built_in c.args.builder.now.site in
    let items : List InlineItem = c.replace-items.result in
    let is : built_in site ≡ with_run src s true before items = c.in_ok-put_run.ensures.built
    ∙ ap (λ (faces : List FontFace). put src.points (leaf_style_of s (face_of faces s)) (anonymous_props s) true before items) c.innermost-around.ensures.faces in
    let run = events-run src s true before items in
    let e = ap (λ (b : Built). length b.tree.events) is in
    let o = ap (λ (b : Built). length b.tree.events) c.in-Ok.ensures.built in
    let a = length-append site.tree.events (Opens (length site.tree.boxes) ∷ []) in
    within-step c.args.builder.now.site site c.open_box.new.site c.requires.site.within c.requires.site.room.left c.in_ok-put_run.ensures.count c.in_ok-put_run.ensures.room (omega (arith, e, run)) c.in-Ok.ensures.room c.in-Ok.ensures.bytes (ap (λ (b : Built). leaf_bytes b.tree.leaves) c.in-Ok.ensures.built) (omega (arith, o, a))

pub returns-in_err-put_run-clause-cause : goal.returns-in_err-put_run-clause-cause
returns-in_err-put_run-clause-cause c =
    let src = source_in c.args.input.now in
    let old = c.args.builder.now in
    let s : Style = c.innermost-around.result.now.style in
    let p = err_from_is_err_and c.from_residual.result c.from_residual.ensures.1 in
    rw (p.1, p.2) (λ e.
    subst (λ (u : Style). old.site.room.bytes < leaf_bytes (with_run src u true (built_in old.site) old.run).tree.leaves) (c.innermost-around.ensures.value ∙ ap (λ (l : List NodeId). innermost (styles_of c.args.input.now.texts.now.styles.now l)) c.deref.ensures.value)
    (subst (λ (faces : List FontFace). old.site.room.bytes < leaf_bytes (put src.points (leaf_style_of s (face_of faces s)) (anonymous_props s) true (built_in old.site) old.run).tree.leaves) c.innermost-around.ensures.faces
    (subst (λ (l : List InlineItem). old.site.room.bytes < leaf_bytes (put src.points (leaf_style_of s (face_of c.innermost-around.result.now.faces s)) (anonymous_props s) true (built_in old.site) l).tree.leaves) (c.replace-items.ensures.value) (c.in_err-put_run.ensures.cause e))))
