use Rattle.page_seq.proofs.OwnerLemmas.{have_owners}
use Rattle.page_seq.proofs.places.places_have_owners.Goals as goal

pub returns : goal.returns
returns c = have_owners
