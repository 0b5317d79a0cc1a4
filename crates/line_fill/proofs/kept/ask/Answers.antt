use Rattle.std.proofs.Common.{Some, rules, refl}
use Rattle.line_fill.specs.KeptLines.{IsFound}
use Rattle.line_fill.specs.KeptSteps.AsksLine.{found}
use Rattle.line_fill.proofs.kept.ask.Goals as goal

pub returns-clause-line : goal.returns-clause-line
returns-clause-line g c =
    let f : IsFound c.args.kept.now.lines.items c.place_of-place.result c.args.from (Some c.in-Some.found) = rw c.as_slice-2.ensures.value at c.in-Some.ensures.is in
    found c.place_of-place.result c.in-Some.found f.0 refl f.1 (search rules) c.count_step.ensures
