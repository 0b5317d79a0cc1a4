use Rattle.soft_hyphens.proofs.WordLemmas.{longest}
use Rattle.soft_hyphens.proofs.laws.words_are_longest.Goals as goal

pub returns : goal.returns
returns c = longest
