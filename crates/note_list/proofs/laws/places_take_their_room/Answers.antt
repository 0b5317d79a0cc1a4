use Rattle.note_list.proofs.AreaLemmas.{places_take_their_room}
use Rattle.note_list.proofs.laws.places_take_their_room.Goals as goal

pub returns : goal.returns
returns c = places_take_their_room
