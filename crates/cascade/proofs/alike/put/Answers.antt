use Rattle.std.proofs.Common.{ap, ◌∙◌}
use Rattle.cascade.specs.Sharing.{seen_of}
use Rattle.cascade.proofs.AlikeLemmas.{seen_insert}
use Rattle.cascade.proofs.alike.put.Goals as goal

pub returns-in-Ok : goal.returns-in-Ok
returns-in-Ok c = ap seen_of c.in-Ok.ensures.entries ∙ seen_insert c.args.mark c.args.node c.args.nodes.now.entries
