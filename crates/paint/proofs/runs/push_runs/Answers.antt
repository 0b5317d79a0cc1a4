use Rattle.std.proofs.lemmas.Option.{slice_get-get_or}
use Rattle.paint.proofs.Lists.{more_pushed}
use Rattle.paint.proofs.runs.push_runs.Goals as goal

pub loop-run-preserved : goal.loop-run-preserved
loop-run-preserved c = record {
  items = more_pushed _ c.args.runs.now c.loop-run.run-index _ _ _ _ (slice_get-get_or c.args.runs.now c.loop-run.run-index _ c.loop-run-test.true) c.in_ok-push_run.ensures.items c.loop-run.invariant.items;
  faces = c.in_ok-push_run.ensures.faces;
}
