use Rattle.sheets.proofs.ReadLemmas.{read-many}
use Rattle.sheets.proofs.author.read_author.Goals as goal

pub returns-in-Err-Rules-clause-answer : goal.returns-in-Err-Rules-clause-answer
returns-in-Err-Rules-clause-answer c = λ reading h. read-many reading c.args.text.now h c.one_reading.ensures (c.in-Err-Rules.ensures.many c.in-Err-Rules.field-0-is)
