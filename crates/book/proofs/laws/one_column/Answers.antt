use Rattle.book.proofs.OneColumn.{has_no_gap, is_the_page}
use Rattle.book.proofs.OneGap.{is_expected}
use Rattle.book.proofs.laws.one_column.Goals as goal

pub returns-clause-page : goal.returns-clause-page
returns-clause-page c = is_the_page c.one_is_a_page.ensures c.pages_are_numbered.ensures

pub returns-clause-gap : goal.returns-clause-gap
returns-clause-gap c = has_no_gap c.one_book.ensures.book

pub returns-clause-words : goal.returns-clause-words
returns-clause-words c = is_expected c.one_is_expected.ensures c.one_book_is_expected.ensures.tree c.one_book.ensures.book
