use Rattle.refs.proofs.LawLemmas.{find_numbers}
use Rattle.refs.proofs.laws.references_find_numbers.Goals as goal

pub returns : goal.returns
returns c = find_numbers
