use Rattle.page_ctx.proofs.WeightLemmas.{greatest_is_greatest}
use Rattle.page_ctx.proofs.laws.greatest_is_greatest.Goals as goal

pub returns : goal.returns
returns c = greatest_is_greatest
