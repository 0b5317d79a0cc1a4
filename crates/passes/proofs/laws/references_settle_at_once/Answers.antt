use Rattle.passes.proofs.EndLemmas.{at_once}
use Rattle.passes.proofs.laws.references_settle_at_once.Goals as goal

pub returns : goal.returns
returns c = at_once
