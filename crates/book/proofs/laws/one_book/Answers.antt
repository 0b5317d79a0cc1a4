use Rattle.book.proofs.OneBook.{one_book, one_end_of}
use Rattle.book.proofs.laws.one_book.Goals as goal

pub returns-clause-end : goal.returns-clause-end
returns-clause-end c = one_end_of c.one_reading.ensures c.styles_are_one.ensures c.targets_are_one.ensures c.page_rules_are_one.ensures c.one_end.ensures

pub returns-clause-book : goal.returns-clause-book
returns-clause-book c = one_book c.one_reading.ensures c.styles_are_one.ensures c.targets_are_one.ensures c.page_rules_are_one.ensures c.one_end.ensures
