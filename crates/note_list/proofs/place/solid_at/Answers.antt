use Rattle.note_list.proofs.PartLemmas.{small_at}
use Rattle.note_list.proofs.place.solid_at.Goals as goal

pub returns-clause-small : goal.returns-clause-small
returns-clause-small c = small_at c.args.solids.now c.args.at _ c.requires.at c.requires.small
