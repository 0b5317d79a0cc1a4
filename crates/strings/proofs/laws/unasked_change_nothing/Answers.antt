use Rattle.strings.proofs.AskedLemmas.{unasked_change_nothing}
use Rattle.strings.proofs.laws.unasked_change_nothing.Goals as goal

pub returns : goal.returns
returns c = unasked_change_nothing
