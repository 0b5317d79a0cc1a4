use Rattle.std.proofs.lemmas.List.Elements.{All-push}
use Rattle.total_fit.specs.Lines.{IsGoodStop}
use Rattle.flow_rows.proofs.plans.stops_of.Goals as goal

pub loop-piece-preserved : goal.loop-piece-preserved
loop-piece-preserved c = record {
  good = rw c.in_ok-push.ensures.items (All-push IsGoodStop c.loop-piece.stops.items c.stop.result c.loop-piece.invariant.good c.stop.ensures);
}
