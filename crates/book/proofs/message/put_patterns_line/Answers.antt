use Rattle.book.proofs.message.put_patterns_line.Goals as goal

pub returns-clause-bytes : goal.returns-clause-bytes
returns-clause-bytes g c = rw (← c.format.ensures.text) c.put_texts.ensures.bytes
