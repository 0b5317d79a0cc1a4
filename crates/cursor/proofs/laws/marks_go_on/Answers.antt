use Rattle.cursor.proofs.MarkLemmas.{marks_go}
use Rattle.cursor.proofs.laws.marks_go_on.Goals as goal

pub returns : goal.returns
returns c = marks_go
