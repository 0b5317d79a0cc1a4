use Rattle.page_ctx.specs.Margins.{style_of}
use Rattle.margin_box.proofs.FaceLemmas.{faces_more}
use Rattle.margin_box.proofs.faces.chosen_faces.Goals as goal

pub loop-place-preserved : goal.loop-place-preserved
loop-place-preserved c =
    let page = c.args.page.now in
    faces_more c.args.margins.now.faces.now (style_of c.args.margins.now.styles.now.boxes page.index page.name page.kind) c.loop-place.faces c.loop-place.place c.face_at.result c.face_at.ensures c.loop-place.invariant
