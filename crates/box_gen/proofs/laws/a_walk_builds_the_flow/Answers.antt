use Rattle.box_gen.proofs.BodyLemmas.{walk-builds}
use Rattle.box_gen.proofs.laws.a_walk_builds_the_flow.Goals as goal

pub returns : goal.returns
returns c = walk-builds
