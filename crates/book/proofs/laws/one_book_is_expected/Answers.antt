use Rattle.book.proofs.OneAnswer.{expected_book, expected_end, expected_tree}
use Rattle.book.proofs.laws.one_book_is_expected.Goals as goal

pub returns-clause-tree : goal.returns-clause-tree
returns-clause-tree c = expected_tree c.texts_are_trees.ensures.tree

pub returns-clause-end : goal.returns-clause-end
returns-clause-end c = expected_end c.texts_are_trees.ensures.tree c.one_is_expected.ensures c.one_book.ensures.end

pub returns-clause-book : goal.returns-clause-book
returns-clause-book c = expected_book c.texts_are_trees.ensures.tree c.one_is_expected.ensures c.one_book.ensures.book
