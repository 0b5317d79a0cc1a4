use Rattle.std.proofs.Common.{rules}
use Rattle.page_rows.proofs.lines_cut.lines_read.Goals as goal

pub loop-at-preserved : goal.loop-at-preserved
loop-at-preserved c = record { read = c.take.ensures.read c.loop-at.at c.loop-at.invariant.read; area = search rules }
