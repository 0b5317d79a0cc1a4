use Rattle.css_rules.proofs.First.{part_ends}
use Rattle.css_rules.proofs.parts.parts_end_first.Goals as goal

pub returns : goal.returns
returns c = part_ends
