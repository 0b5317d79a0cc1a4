use Rattle.std.proofs.Common.{arith}
use Rattle.std.proofs.lemmas.Int.{ints}
use Rattle.seams.proofs.open_box.opened_in.Goals as goal

pub returns-clause-bounded : goal.returns-clause-bounded
returns-clause-bounded c = λ depth b.
    let width_high = b.high in
    let head_low = b.head_low in
    let head_high = b.head_high in
    let tail_low = b.tail_low in
    let tail_high = b.tail_high in
    let head = c.requires.head in
    let tail = c.requires.tail in
    let low = c.content_width_in-width.ensures.low in
    let high = c.content_width_in-width.ensures.high in
    let top_low = c.frame_units.ensures.low in
    let top_high = c.frame_units.ensures.high in
    let bottom_low = c.frame_units-2.ensures.low in
    let bottom_high = c.frame_units-2.ensures.high in
    record {
      low = omega (arith, ints);
      high = omega (arith, ints);
      head_low = omega (arith, ints);
      head_high = omega (arith, ints);
      tail_low = omega (arith, ints);
      tail_high = omega (arith, ints);
    }
