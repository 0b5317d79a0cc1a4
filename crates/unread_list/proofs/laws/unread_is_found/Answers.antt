use Rattle.unread_list.specs.Parts.{parts_of}
use Rattle.unread_list.proofs.FamilyLemmas.{unread_are}
use Rattle.unread_list.proofs.laws.unread_is_found.Goals as goal

pub returns : goal.returns
returns c = λ faces text. unread_are faces (parts_of text)
