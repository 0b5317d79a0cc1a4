use Rattle.sheets.proofs.ReadLemmas.{texts-read}
use Rattle.sheets.proofs.laws.texts_are_read.Goals as goal

pub returns : goal.returns
returns c = texts-read c.one_reading.ensures
