use Rattle.book.proofs.run.answer.Goals as goal

pub returns-clause-answers : goal.returns-clause-answers
returns-clause-answers g c = λ reading h. rw c.answer_of.ensures (c.put_asked.ensures.answers reading h)

pub returns-clause-put : goal.returns-clause-put
returns-clause-put g c = rw c.answer_of.ensures c.put_asked.ensures.put

pub returns-clause-words : goal.returns-clause-words
returns-clause-words g c = rw c.answer_of.ensures c.put_asked.ensures.words

pub returns-clause-read_fault : goal.returns-clause-read_fault
returns-clause-read_fault g c = rw c.answer_of.ensures c.put_asked.ensures.read_fault

pub returns-clause-write_fault : goal.returns-clause-write_fault
returns-clause-write_fault g c = rw c.answer_of.ensures c.put_asked.ensures.write_fault

pub returns-clause-count : goal.returns-clause-count
returns-clause-count g c = rw c.answer_of.ensures c.put_asked.ensures.count

pub returns-clause-lines : goal.returns-clause-lines
returns-clause-lines g c = λ reading h. rw c.answer_of.ensures (c.put_asked.ensures.lines reading h)
