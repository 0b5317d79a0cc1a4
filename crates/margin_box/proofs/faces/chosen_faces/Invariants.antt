use Rattle.page_ctx.specs.Margins.{style_of}
use Rattle.margin_box.specs.Chosen.{AreFacesBelow}
use Rattle.margin_box.proofs.faces.chosen_faces.Given as goal

abbrev pub invariant-loop-place : goal.invariant-loop-place
invariant-loop-place l = AreFacesBelow l.place l.margins.faces.now (style_of l.margins.styles.now.boxes l.page.index l.page.name l.page.kind) l.faces
