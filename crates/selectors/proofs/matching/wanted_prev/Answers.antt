use Rattle.std.proofs.Common.{◌≡◌, subst}
use Rattle.std.specs.Prelude.{IfSome}
use Rattle.selectors.specs.Match.{parent_of}
use Rattle.selectors.proofs.WalkLemmas.{element_below, element_row}
use Rattle.selectors.proofs.matching.wanted_prev.Goals as goal

pub returns-else-wanted-eq0-clause-below : goal.returns-else-wanted-eq0-clause-below
returns-else-wanted-eq0-clause-below c = element_below c.dom.result.now c.args.node.0 c.prev_element.result c.prev_element.ensures

pub returns-else-wanted-eq0-clause-row : goal.returns-else-wanted-eq0-clause-row
returns-else-wanted-eq0-clause-row c = subst (λ z. IfSome c.prev_element.result (λ p. parent_of z p.0 ≡ parent_of z c.args.node.0)) c.dom.ensures (element_row c.dom.result.now c.args.node.0 c.prev_element.result c.prev_element.ensures)
