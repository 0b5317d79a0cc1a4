use Rattle.computed.proofs.SameLemmas.{styles-one}
use Rattle.computed.proofs.laws.styles_are_one.Goals as goal

pub returns : goal.returns
returns c = styles-one c.winners_are_one.ensures
