use Rattle.std.proofs.Common.{arith}
use Rattle.std.proofs.lemmas.Int.{ints, clamps}
use Rattle.total_fit.specs.Lines.{width_of}
use Rattle.total_fit.proofs.line.line_width.Goals as goal

pub returns-then-width-lt0-clause-width : goal.returns-then-width-lt0-clause-width
unfolding width_of
returns-then-width-lt0-clause-width c =
    rw (← c.reach_at.ensures.reach, ← c.begin_at.ensures.begin) (omega (arith, ints, clamps))

pub returns-else-width-lt0-clause-width : goal.returns-else-width-lt0-clause-width
unfolding width_of
returns-else-width-lt0-clause-width c =
    rw (← c.reach_at.ensures.reach, ← c.begin_at.ensures.begin) (omega (arith, ints, clamps))
