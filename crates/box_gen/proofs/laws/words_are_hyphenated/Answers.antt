use Rattle.box_gen.proofs.ExampleLemmas.{hyphenates}
use Rattle.box_gen.proofs.laws.words_are_hyphenated.Goals as goal

pub returns : goal.returns
returns c = hyphenates
