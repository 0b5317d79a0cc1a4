use Rattle.css_tok.proofs.ReadingLemmas.{token_reading}
use Rattle.css_tok.proofs.LongestLemmas.{none_longer, only_delim}
use Rattle.css_tok.proofs.laws.longest_reading_counts.Goals as goal

pub returns-clause-longest : goal.returns-clause-longest
returns-clause-longest c = none_longer

pub returns-clause-reading : goal.returns-clause-reading
returns-clause-reading c = token_reading

pub returns-clause-ties : goal.returns-clause-ties
returns-clause-ties c = only_delim
