use Rattle.computed.proofs.RangeLemmas.{in_range}
use Rattle.computed.proofs.laws.styles_keep_ranges.Goals as goal

pub returns : goal.returns
returns c dom sheets names rows tree x k p s e = in_range names rows dom x.winners tree x.are_winners.count x.styles k p s e
