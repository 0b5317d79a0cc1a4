use Rattle.std.proofs.Common.{◌≡◌, ◌+◌, ◌<◌, ◌∙◌, Some, length, slice_get, ap, sym, subst, arith}
use Rattle.std.specs.Prelude.{◌^◌}
use Rattle.std.proofs.lemmas.Option.{slice_get-get_or}
use Rattle.dom.specs.Walk.{node_of}
use Rattle.counters.specs.declared.at.Spot.{Spot}
use Rattle.counters.proofs.SpotLemmas.{passed-few, passed-more}
use Rattle.counters.proofs.spots.spots_of.Goals as goal

pub loop-step-preserved : goal.loop-step-preserved
loop-step-preserved c =
    let p = c.loop-step.invariant.0 in
    let spots = c.loop-step.spots.items in
    let within : node_of c.in-Some.step < length c.args.dom.now = subst (λ ns. node_of c.in-Some.step < length ns) c.loop-step.invariant.1 c.in-Some.ensures.within in
    let few : c.loop-step.count + 1 < 2 ^ 28 = passed-few c.args.dom.now c.in-Some.step c.loop-step.walk.steps c.next.new.self.steps c.loop-step.count spots c.len.ensures.tree c.in-Some.ensures.some p in
    let same = c.node_of-node.ensures in
    let l : c.node_of-node.result < length spots = let z = p.len in omega (arith, same, within) in
    let at : slice_get spots (node_of c.in-Some.step) ≡ Some c.index.result.now = ap (slice_get spots) (sym same) ∙ slice_get-get_or spots c.node_of-node.result c.index.result.now l ∙ ap (λ (x : Spot). Some x) (sym c.index.ensures) in
    rw (c.node_of-node.ensures, c.stepped.ensures) (passed-more c.args.dom.now c.in-Some.step c.loop-step.walk.steps c.next.new.self.steps c.loop-step.count spots c.index.result.now c.in-Some.ensures.some few within at p, c.in-Some.ensures.nodes ∙ c.loop-step.invariant.1)
