use Rattle.refs.proofs.LawLemmas.{have_nodes}
use Rattle.refs.proofs.laws.tables_have_nodes.Goals as goal

pub returns : goal.returns
returns c = have_nodes
