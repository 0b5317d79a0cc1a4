use Rattle.counters.proofs.NumeralLemmas.{roman_stands_for}
use Rattle.counters.proofs.laws.roman_numerals.Goals as goal

pub returns : goal.returns
returns c = roman_stands_for
