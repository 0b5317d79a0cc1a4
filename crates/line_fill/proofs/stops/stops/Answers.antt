use Rattle.std.proofs.Common.{map, ap, arith, ◌∙◌}
use Rattle.std.proofs.lemmas.List.{take_all}
use Rattle.line_fill.specs.Stops.{offsets_of, stop_at, stops_of}
use Rattle.line_fill.proofs.stops.stops.Goals as goal

pub returns-clause-value : goal.returns-clause-value
unfolding stops_of
returns-clause-value c =
    let n = c.count-index-end.ensures in
    let t = c.loop-index-test.false in
    c.loop-index.invariant.stops
    ∙ ap (map (stop_at c.args.faces.now c.args.leaf.now c.args.paragraph.from)) (take_all c.loop-index.index (offsets_of c.args.leaf.now c.args.paragraph.from) (omega (arith, n)))
