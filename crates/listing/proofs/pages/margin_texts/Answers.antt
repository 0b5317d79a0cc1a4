use Rattle.std.proofs.Common.{sym, subst}
use Rattle.margin_box.specs.Chosen.{AreChosen}
use Rattle.listing.proofs.pages.margin_texts.Goals as goal

pub margin_items_with-requires-clause-chosen : goal.margin_items_with-requires-clause-chosen
margin_items_with-requires-clause-chosen c =
    let kept = c.args.chosen.now in
    subst (λ faces. AreChosen faces c.margins_of.result.styles.now.boxes kept) (sym c.margins_of.ensures.faces)
    (subst (λ rows. AreChosen c.args.printer.now.faces.now rows kept) (sym c.margins_of.ensures.boxes) c.requires.chosen)

pub returns-clause-chosen : goal.returns-clause-chosen
returns-clause-chosen c =
    let kept = c.margin_items_with.new.chosen in
    subst (λ rows. AreChosen c.args.printer.now.faces.now rows kept) c.margins_of.ensures.boxes
    (subst (λ faces. AreChosen faces c.margins_of.result.styles.now.boxes kept) c.margins_of.ensures.faces c.margin_items_with.ensures.chosen)
