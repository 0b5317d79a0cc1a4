use Rattle.std.proofs.Common.{◌∙◌, sym, subst}
use Rattle.margin_box.specs.Chosen.{AreChosen, AreFacesOf, IsChosen, style_with}
use Rattle.margin_box.proofs.FaceLemmas.{of-found}
use Rattle.margin_box.proofs.faces.faces_on.Goals as goal

pub returns-in-Some-clause-faces : goal.returns-in-Some-clause-faces
returns-in-Some-clause-faces c =
    let m = c.args.margins.now in
    let all = subst (AreChosen m.faces.now m.styles.now.boxes) (sym c.chosen.view_is) c.requires in
    subst (λ k. AreFacesOf m.faces.now (style_with m.styles.now.boxes k) c.in-Some.faces) c.key_of-key.ensures
    (of-found (IsChosen m.faces.now m.styles.now.boxes) c.key_of-key.result c.in-Some.faces _ (sym c.find.ensures ∙ c.in-Some.is) all)
