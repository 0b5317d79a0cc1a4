use Rattle.paint.proofs.PartLemmas.{grown_more}
use Rattle.paint.proofs.gather.pass_to.Goals as goal

pub loop-at-preserved : goal.loop-at-preserved
loop-at-preserved c = record {
  at = c.in_ok-inner.ensures.at;
  grown = grown_more c.args.parts.now.items c.loop-at.parts.items c.pass.new.parts.items c.loop-at.invariant.grown c.in_ok-inner.ensures.grown;
}
