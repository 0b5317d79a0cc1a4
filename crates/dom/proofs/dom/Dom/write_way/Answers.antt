use Rattle.std.proofs.Common.{ℕ, ◌-◌, arith, sym, ◌∙◌, ap, Option, take, drop, ◌++◌, slice_set}
use Rattle.std.proofs.Math.ListN.{length-set}
use Rattle.dom.specs.Nodes.{parents_of}
use Rattle.dom.specs.Order.{way}
use Rattle.dom.proofs.OrderLemmas.{step-up, way-step}
use Rattle.dom.proofs.dom.Dom.write_way.Goals as goal

pub loop-next-preserved : goal.loop-next-preserved
loop-next-preserved c =
    let here = rw c.in-Some.is at c.loop-next.invariant.here in
    let up = step-up c.args.self.now c.loop-next.place c.in-Some.node.0 c.depth-depth.ensures.tree here in
    let some = up.some in
    let most = c.depth-depth.ensures.most in
    let within = c.loop-next.invariant.within in
    let size = c.loop-next.invariant.size in
    record {
      within = omega arith;
      size = simp length-set size;
      here = rw c.parent-next.ensures up.parent;
      way = rw c.in-Some.is at c.loop-next.invariant.way ∙ way-step (parents_of c.args.self.now) c.loop-next.place c.depth-depth.result c.in-Some.node.0 c.loop-next.way some within (omega arith)
          ∙ ap (λ (o : Option ℕ). way (parents_of c.args.self.now) (c.loop-next.place - 1) o ++ drop (c.loop-next.place - 1) (take c.depth-depth.result (slice_set c.loop-next.way (c.loop-next.place - 1) c.in-Some.node.0))) (sym c.parent-next.ensures);
    }
