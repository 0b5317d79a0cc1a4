use Rattle.counters.proofs.NestLemmas.{events-are-nested}
use Rattle.counters.proofs.laws.events_are_nested.Goals as goal

pub returns : goal.returns
returns c = events-are-nested
