use Rattle.std.proofs.Common.{◌<ℤ◌, ◌+ℤ◌, pos, length, arith, get_or}
use Rattle.std.proofs.lemmas.Int.{ints}
use Rattle.total_fit.specs.Lines.{begin_of, measure_of}
use Rattle.total_fit.proofs.ChoiceLemmas.{choice-ends, reach-misses}
use Rattle.total_fit.proofs.choice.best_line.Goals as goal

pub returns-then-reaches-at : goal.returns-then-reaches-at
returns-then-reaches-at c =
    let far : (begin_of c.args.stops.now c.args.from +ℤ measure_of c.args.measures c.args.from) <ℤ get_or c.args.reaches.now c.loop-at.at (pos 0) =
    rw (← c.begin_at.ensures.begin, ← c.measure_at.ensures.measure) (omega (arith, ints)) in
    choice-ends c.args.stops.now c.args.measures c.args.potentials.now c.args.from c.loop-at.at (length c.args.stops.now) c.loop-at.best
    c.loop-at.invariant.so_far c.loop-at.invariant.high
    (λ j l w. reach-misses c.args.stops.now c.args.measures c.args.from j (get_or c.args.reaches.now c.loop-at.at (pos 0)) far (c.requires.reaches.below c.loop-at.at j l w))
