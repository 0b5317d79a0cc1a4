use Rattle.box_gen.proofs.ExampleLemmas.{collapses}
use Rattle.box_gen.proofs.laws.white_space_collapses.Goals as goal

pub returns : goal.returns
returns c = collapses
