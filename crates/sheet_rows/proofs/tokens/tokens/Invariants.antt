use Rattle.std.proofs.Common.{length}
use Rattle.sheet_rows.proofs.tokens.tokens.Given as goal

abbrev pub decreases-loop-token : goal.decreases-loop-token
decreases-loop-token l = length l.tokens.rest.now
