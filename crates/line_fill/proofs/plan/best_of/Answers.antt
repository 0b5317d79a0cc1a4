use Rattle.std.proofs.Common.{◌≡◌, length, ap, arith, rules, ◌∙◌, FitsSigned, w64}
use Rattle.std.proofs.lemmas.Int.{to_z-of_z}
use Rattle.line_fill.specs.Breaks.{line_measure}
use Rattle.line_fill.specs.Stops.{measures_of, offsets_of, stops_of}
use Rattle.line_fill.proofs.OffsetLemmas.{offsets-some, stops-count}
use Rattle.line_fill.proofs.plan.best_of.Goals as goal
use Rattle.line_fill.proofs.plan.best_of.Goals.{After-as_slice}

items : (c : After-as_slice) → c.as_slice.result.now ≡ stops_of c.args.faces.now c.args.leaf.now c.args.from
items c = c.as_slice.ensures.value ∙ c.in_ok-stops.ensures.value ∙ ap (stops_of c.args.faces.now c.args.leaf.now) c.requires.from

count : (c : After-as_slice) → length c.as_slice.result.now ≡ length (offsets_of c.args.leaf.now c.args.from)
count c = ap length (items c) ∙ stops-count c.args.faces.now c.args.leaf.now c.args.from

pub best_plan-requires-clause-stops : goal.best_plan-requires-clause-stops
best_plan-requires-clause-stops c =
    let n = count (goal.at.best_plan-requires-clause-stops c).After-as_slice in
    let s = offsets-some c.args.leaf.now c.args.from in
    let f = c.requires.stops in
    record {
      some = omega (arith, n, s);
      few = omega (arith, n);
      each = rw c.as_slice.ensures.value c.in_ok-stops.ensures.good;
    }

first : (c : After-as_slice) → c.measure_at-first.result ≡ line_measure c.args.leaf.now c.args.from c.args.measure
first c = let fits : FitsSigned w64 c.args.measure = c.ranges.measure in rw (to_z-of_z w64 c.args.measure fits) at c.measure_at-first.ensures.value

pub returns-clause-none : goal.returns-clause-none
unfolding measures_of
returns-clause-none c =
    let d = (goal.at.returns-clause-none c).After-as_slice in
    let fits : FitsSigned w64 c.args.measure = c.ranges.measure in
    let fits' : FitsSigned w64 c.measure_at-first.result = search rules in
    rw (items d, first d) at (simp to_z-of_z at c.best_plan.ensures.none)

pub returns-clause-best : goal.returns-clause-best
unfolding measures_of
returns-clause-best c =
    let d = (goal.at.returns-clause-best c).After-as_slice in
    let fits : FitsSigned w64 c.args.measure = c.ranges.measure in
    let fits' : FitsSigned w64 c.measure_at-first.result = search rules in
    rw (items d, first d) at (simp to_z-of_z at c.best_plan.ensures.best)
