use Rattle.page_ctx.proofs.WinnerLemmas.{winners_are_greatest}
use Rattle.page_ctx.proofs.laws.winners_are_greatest.Goals as goal

pub returns : goal.returns
returns c = winners_are_greatest
