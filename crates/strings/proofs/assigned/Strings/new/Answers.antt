use Rattle.std.proofs.Common.{subst, sym, ◌∙◌}
use Rattle.strings.specs.Assigned.{PagesNeverFall}
use Rattle.strings.proofs.AssignedLemmas.{in_order, named_is}
use Rattle.strings.proofs.ShownLemmas.{are_strings}
use Rattle.strings.proofs.assigned.Strings.new.Goals as goal

pub invariant_of-result : goal.invariant_of-result
invariant_of-result c = λ name. subst PagesNeverFall (sym (c.in_ok-by_name.ensures name)) (in_order c.args.flow.now.main c.args.list.now.pages c.args.flow.now.strings name c.requires)

pub returns : goal.returns
returns c = are_strings c.args.flow.now.main c.args.list.now.pages c.args.flow.now.strings _ (λ name. named_is c.in_ok-by_name.field-0 name ∙ c.in_ok-by_name.ensures name)
