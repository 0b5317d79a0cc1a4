use Rattle.book.proofs.message.put_limit_line.Goals as goal

pub returns-clause-bytes : goal.returns-clause-bytes
returns-clause-bytes g c = rw (← c.limit_text.ensures) c.put_texts.ensures.bytes
