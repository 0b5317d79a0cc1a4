use Rattle.counters.proofs.NumeralLemmas.{letters_stand_for, letters_are_one}
use Rattle.counters.proofs.laws.letters_of_numbers.Goals as goal

pub returns-clause-value : goal.returns-clause-value
returns-clause-value c = letters_stand_for

pub returns-clause-one : goal.returns-clause-one
returns-clause-one c = letters_are_one
