use Rattle.std.proofs.Common.{subst, sym}
use Rattle.columns.specs.Columns.{IsNearFrame}
use Rattle.columns.proofs.NearLemmas.{near_frame}
use Rattle.columns.proofs.columns.ColumnsFrames.frame.Goals as goal

pub column_of-requires-clause-near : goal.column_of-requires-clause-near
column_of-requires-clause-near c = subst IsNearFrame (sym c.frame-frame.ensures.frame) (near_frame c.args.self.now.pages.table.rows c.args.self.now.good.near c.page_of-page.result c.args.name c.args.kind)
