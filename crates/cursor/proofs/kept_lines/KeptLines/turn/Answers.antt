use Rattle.std.proofs.Common.{sym, subst}
use Rattle.line_fill.specs.Kept.{AreKept}
use Rattle.cursor.specs.KeptLines.{KeptLinesView}
use Rattle.cursor.proofs.kept_lines.KeptLines.turn.Goals as goal

pub returns-clause-kept : goal.returns-clause-kept
returns-clause-kept c = λ faces kept. c.turn.ensures.kept faces (subst (λ (v : KeptLinesView). AreKept faces v.kept) (sym c.self.view_is) kept)
