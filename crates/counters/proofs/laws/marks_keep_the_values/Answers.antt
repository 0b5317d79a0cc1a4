use Rattle.counters.proofs.ValueLemmas.{values-are}
use Rattle.counters.proofs.laws.marks_keep_the_values.Goals as goal

pub returns : goal.returns
returns c = values-are
