use Rattle.selectors.proofs.WalkLemmas.{element_below}
use Rattle.match_table.proofs.columns.prev.Goals as goal

pub returns-clause-below : goal.returns-clause-below
returns-clause-below c = element_below c.dom-dom.result.now c.args.node.0 c.prev_element.result c.prev_element.ensures
