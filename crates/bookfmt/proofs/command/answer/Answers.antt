use Rattle.std.proofs.Common.{refl}
use Rattle.book.proofs.Stopping.{keeps_same}
use Rattle.bookfmt.proofs.command.answer.Goals as goal

pub returns-in-Ok-clause-answer : goal.returns-in-Ok-clause-answer
returns-in-Ok-clause-answer g c = rw (c.in-Ok.is, ← c.deref.ensures.value) (record {
  answers = c.run.ensures.answers;
  put = c.run.ensures.put;
  words = c.run.ensures.words;
  read_fault = c.run.ensures.read_fault;
  write_fault = c.run.ensures.write_fault;
  count = c.run.ensures.count;
  complete = c.run.ensures.complete;
  at_once = c.run.ensures.at_once;
})

pub returns-in-Err-clause-answer : goal.returns-in-Err-clause-answer
returns-in-Err-clause-answer g c = rw c.in-Err.is (record { is = refl; unread = refl; unwritten = refl; put = keeps_same _ })
