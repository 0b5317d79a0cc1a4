use Rattle.book.proofs.message.put_unread_line.Goals as goal

pub returns-clause-bytes : goal.returns-clause-bytes
returns-clause-bytes g c = rw (← c.file_words.ensures.word, ← c.file_words.ensures.number) c.put_texts.ensures.bytes
