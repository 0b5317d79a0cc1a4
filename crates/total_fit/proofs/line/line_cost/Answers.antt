use Rattle.std.proofs.Common.{◌≡◌, ◌^◌, ◌≤◌, ◌-ℤ◌, ◌≤ℤ◌, ◌∙◌, arith, rules, unsigned_abs}
use Rattle.std.proofs.lemmas.Int.{ints, to_z-of_z}
use mir.Syntax.{w64}
use mir.Val.{SFits}
use Rattle.total_fit.specs.Lines.{Fits, hyphen_cost, measure_of, width_of, stop_of}
use Rattle.total_fit.proofs.CostLemmas.{left-small, square-small, hyphen-small, cost-made, measure-good, width-low}
use Rattle.total_fit.proofs.line.line_cost.Goals as goal
use Rattle.total_fit.proofs.line.line_cost.Goals.{After-cost_of_hyphen}

fits : (c : After-cost_of_hyphen) → width_of c.args.stops.now c.args.from c.args.to ≤ℤ measure_of c.args.measures c.args.from
fits c = rw (← c.line_width-width.ensures.width, ← c.measure_at-measure.ensures.measure) (omega (arith, ints))

left : (c : After-cost_of_hyphen) → c.from-left.result ≡ unsigned_abs (measure_of c.args.measures c.args.from -ℤ width_of c.args.stops.now c.args.from c.args.to)
left c =
    let f : SFits w64 c.measure_at-measure.result = search rules in
    let g : SFits w64 c.line_width-width.result = search rules in
    let h : SFits w64 (c.measure_at-measure.result -ℤ c.line_width-width.result) = search (rules, ints) in
    rw (← c.line_width-width.ensures.width, ← c.measure_at-measure.ensures.measure) (c.from-left.ensures ∙ simp to_z-of_z at c.unsigned_abs.ensures.value)

hyphen : (c : After-cost_of_hyphen) → c.cost_of_hyphen.result ≡ hyphen_cost (stop_of c.args.stops.now c.args.to).hyphen
hyphen c =
    let f : SFits w64 c.stop_at.result.hyphen = search rules in
    rw (← c.stop_at.ensures.stop) (simp to_z-of_z at c.cost_of_hyphen.ensures)

pub overflow_add-result : goal.overflow_add-result
overflow_add-result c =
    let small = left-small _ _ (measure-good c.args.measures c.args.from c.requires.measures) (width-low c.args.stops.now c.args.from c.args.to) (fits c) in
    let few : c.from-left.result ≤ 2 ^ 41 = rw (left c) small in
    let sq = square-small c.from-left.result few in
    let one : c.cost_of_hyphen.result ≤ 1048576 = rw (hyphen c) (hyphen-small (stop_of c.args.stops.now c.args.to).hyphen) in
    omega (arith, sq, one)

pub returns-else-to-stops : goal.returns-else-to-stops
unfolding Fits
returns-else-to-stops c =
    let d = (goal.at.returns-else-to-stops c).After-cost_of_hyphen in
    (fits d, cost-made c.args.stops.now c.args.measures c.args.from c.args.to c.from-left.result c.cost_of_hyphen.result c.if-to-stops.false (left d) (hyphen d))
