use Rattle.std.proofs.Common.{◌≤◌, ◌^◌, arith}
use Rattle.total_fit.proofs.CostLemmas.{cost-small}
use Rattle.total_fit.proofs.ChoiceLemmas.{listed-small}
use Rattle.total_fit.proofs.choice.better.Goals as goal

pub overflow_add-cost : goal.overflow_add-cost
overflow_add-cost c =
    let line = c.in-Some.ensures in
    let few = c.requires.can.good.few in
    let one : c.in-Some.line ≤ 2 ^ 83 = rw line.1 (cost-small _ _ _ _ c.requires.can.bounded line.0) in
    let more = listed-small c.args.stops.now c.args.measures c.args.potentials.now c.args.from c.args.at c.in-Some-potential_at.rest c.requires.can.bounded few c.requires.can.known c.requires.order c.requires.within (c.in-Some-potential_at.ensures) in
    omega (arith, one, more)
