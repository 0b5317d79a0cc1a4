use Rattle.std.proofs.Common.{length}
use Rattle.hyphen.proofs.tree.Node.+put.Given as goal

abbrev pub decreases-put : goal.decreases-put
decreases-put l = length l.letters.now
