use Rattle.std.proofs.Common.{◌∷◌, ◌++◌, [], List, map, arith}
use Rattle.box_gen.specs.Items.{InlineItem, items_in, text_in}
use Rattle.box_gen.proofs.ItemLemmas.{run-long}
use Rattle.box_gen.proofs.leaf.pass_within.Goals as goal

pub returns-then-len-most-clause-cause : goal.returns-then-len-most-clause-cause
returns-then-len-most-clause-cause c = λ points items more h e.
    let now : List InlineItem = items_in (map text_in c.args.texts.now) (c.args.entry.now ∷ []) in
    let long = run-long points c.pass_entry.new.pass (items ++ now) more (c.in-Ok.ensures items h) c.len.ensures.texts in
    let n = c.len.ensures.value in
    let t = c.if-len-most.true in
    omega (arith, long, n, t)
