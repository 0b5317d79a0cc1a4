use Rattle.book.proofs.message.put_metrics_line.Goals as goal

pub returns-clause-bytes : goal.returns-clause-bytes
returns-clause-bytes g c = rw (← c.why_text.ensures, ← c.format.ensures.text) c.put_texts.ensures.bytes
