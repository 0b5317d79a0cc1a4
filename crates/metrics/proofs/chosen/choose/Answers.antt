use Rattle.metrics.proofs.FaceLemmas.{face-is}
use Rattle.metrics.proofs.chosen.choose.Goals as goal

pub returns-clause-face : goal.returns-clause-face
returns-clause-face c = face-is c.args.faces.now c.args.families.now c.args.italic c.args.weight c.choose.result c.len.ensures.faces c.choose.ensures.choice
