use Rattle.paint.proofs.walk.go_to.Goals as goal

pub pass_to-requires-clause-opens : goal.pass_to-requires-clause-opens
pass_to-requires-clause-opens c = c.requires.opens c.in-Some.at c.in-Some.is
