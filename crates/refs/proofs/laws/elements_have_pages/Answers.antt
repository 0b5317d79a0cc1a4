use Rattle.refs.proofs.LawLemmas.{have_pages}
use Rattle.refs.proofs.laws.elements_have_pages.Goals as goal

pub returns : goal.returns
returns c = have_pages
