use Rattle.std.proofs.Common.{◌∙◌, IfOk, map, ap, subst}
use Rattle.match_table.specs.All.{AreMatchLists}
use Rattle.cascade.proofs.winners.matches_of.Goals as goal

pub returns-clause-lists : goal.returns-clause-lists
returns-clause-lists c = subst (λ z. IfOk c.match_all.result (λ t. AreMatchLists c.args.dom.now z t)) (ap (map (λ s. s.now)) c.deref.ensures.value ∙ c.in_ok-selectors.ensures) c.match_all.ensures.lists
