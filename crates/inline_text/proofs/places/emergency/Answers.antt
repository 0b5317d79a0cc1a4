use Rattle.std.proofs.Common.{◌∙◌, sym}
use Rattle.inline_text.proofs.PlaceLemmas.{no_emergencies}
use Rattle.inline_text.proofs.places.emergency.Goals as goal

pub returns-else-has_emergencies : goal.returns-else-has_emergencies
returns-else-has_emergencies c = c.new.ensures ∙ no_emergencies c.args.text.now c.args.spans.now (sym c.has_emergencies.ensures ∙ c.if-has_emergencies.false)
