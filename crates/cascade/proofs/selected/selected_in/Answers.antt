use Rattle.std.proofs.Common.{◌≡◌, ◌∙◌, IfOk, map, ap, subst}
use Rattle.cascade.specs.Selected.{ruled_in, selected_in, selected_from}
use Rattle.cascade.proofs.selected.selected_in.Goals as goal

pub returns : goal.returns
returns c = subst (λ z. IfOk c.selected_of.result (λ v. map selected_in v.items ≡ selected_from 0 z)) (ap (map ruled_in) c.deref.ensures.value ∙ c.in_ok-rules.ensures) c.selected_of.ensures
