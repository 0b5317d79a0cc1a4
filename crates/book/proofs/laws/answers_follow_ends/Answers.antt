use Rattle.book.proofs.OneAnswer.{follow_ends}
use Rattle.book.proofs.laws.answers_follow_ends.Goals as goal

pub returns : goal.returns
returns c = follow_ends c.one_is_expected.ensures c.one_book_is_expected.ensures.end
