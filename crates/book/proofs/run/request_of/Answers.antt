use Rattle.book.proofs.WordLemmas.{of_words, words_refused}
use Rattle.book.proofs.run.request_of.Goals as goal

pub returns-in-Err-clause-task : goal.returns-in-Err-clause-task
returns-in-Err-clause-task c = rw c.from.ensures (words_refused _ c.in-Err.e c.in-Err.ensures.answers)

pub returns-in-Err-clause-fault : goal.returns-in-Err-clause-fault
returns-in-Err-clause-fault c = rw c.from.ensures (of_words c.in-Err.e)
