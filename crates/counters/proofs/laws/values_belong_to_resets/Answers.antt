use Rattle.counters.proofs.ActLemmas.{values-belong, values-are-one}
use Rattle.counters.proofs.laws.values_belong_to_resets.Goals as goal

pub returns-clause-value : goal.returns-clause-value
returns-clause-value c = values-belong

pub returns-clause-one : goal.returns-clause-one
returns-clause-one c = values-are-one
