use Rattle.line_fill.proofs.RestLemmas.{rest-is-plan}
use Rattle.line_fill.proofs.laws.rest_of_plan_is_plan.Goals as goal

pub returns : goal.returns
returns c = rest-is-plan
