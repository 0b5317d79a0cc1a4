use Rattle.std.proofs.Common.{arith}
use Rattle.bk_io.proofs.Bytes.{Appends-more, take_next_piece}
use Rattle.bk_io.proofs.put_all.put_all.Goals as goal

pub loop-at-preserved : goal.loop-at-preserved
loop-at-preserved g c = record {
  within = omega (arith, c.in_ok-at.ensures.count.most);
  put = Appends-more _ _ _ _ _ _ c.loop-at.invariant.put c.in_ok-at.ensures.bytes (take_next_piece c.args.bytes.now c.loop-at.at c.in_ok-at.field-0);
  later = omega (arith, c.put.ensures.cause.later);
}
