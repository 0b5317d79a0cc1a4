use Rattle.book.proofs.WordLemmas.{follow_words, only_memory}
use Rattle.book.proofs.laws.answers_follow_words.Goals as goal

pub returns-clause-refused : goal.returns-clause-refused
returns-clause-refused c = follow_words

pub returns-clause-all : goal.returns-clause-all
returns-clause-all c = only_memory
