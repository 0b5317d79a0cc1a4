use Rattle.std.proofs.Common.{subst, sym}
use Rattle.boxes.specs.Contents.{AreOffsets}
use Rattle.inline_text.proofs.PlaceLemmas.{are_ordinary, are_emergencies}
use Rattle.inline_text.proofs.places.opportunities.Goals as goal

pub returns-clause-good : goal.returns-clause-good
returns-clause-good c = subst (AreOffsets c.args.text.now) (sym c.in_ok-places.ensures) (are_ordinary c.args.text.now c.args.spans.now c.utf8.text)

pub returns-clause-good_emergency : goal.returns-clause-good_emergency
returns-clause-good_emergency c = subst (AreOffsets c.args.text.now) (sym c.in_ok-graphemes.ensures) (are_emergencies c.args.text.now c.args.spans.now c.utf8.text)
