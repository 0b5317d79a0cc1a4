use Rattle.page_list.proofs.NoteRunLemmas.{paged_notes}
use Rattle.page_list.proofs.laws.notes_stand_once.Goals as goal

pub returns : goal.returns
returns c = paged_notes
