use Rattle.std.proofs.Common.{◌∙◌}
use Rattle.selectors.proofs.TextLemmas.{occurs-found}
use Rattle.selectors.proofs.fits.occurs.Goals as goal

pub returns : goal.returns
returns c = c.is_some.ensures ∙ occurs-found c.args.part.now c.args.text.now c.find.result c.requires c.find.ensures
