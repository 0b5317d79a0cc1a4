use Rattle.std.proofs.Common.{arith}
use Rattle.std.proofs.lemmas.Int.{ints}
use Rattle.paint.proofs.BoundLemmas.{have_bottoms, height_near}
use Rattle.paint.proofs.note_area.area_height.Goals as goal

pub placed_height-requires : goal.placed_height-requires
placed_height-requires c = have_bottoms c.args.notes.now c.requires

pub returns-clause-value : goal.returns-clause-value
returns-clause-value c =
    let near = height_near c.args.notes.now c.requires in
    let low = near.0 in
    let high = near.1 in
    let is = c.placed_height.ensures in
    omega (arith, ints, low, high, is)

pub returns-clause-low : goal.returns-clause-low
returns-clause-low c =
    let near = height_near c.args.notes.now c.requires in
    let low = near.0 in
    let high = near.1 in
    let is = c.placed_height.ensures in
    omega (arith, ints, low, high, is)

pub returns-clause-high : goal.returns-clause-high
returns-clause-high c =
    let near = height_near c.args.notes.now c.requires in
    let low = near.0 in
    let high = near.1 in
    let is = c.placed_height.ensures in
    omega (arith, ints, low, high, is)
