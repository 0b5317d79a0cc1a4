use Rattle.bk_io.proofs.Passing.{gives_same}
use Rattle.listing.proofs.RecordLemmas.{word-is}
use Rattle.listing.proofs.fields.add_word.Goals as goal

pub returns-clause-bytes : goal.returns-clause-bytes
returns-clause-bytes g c = gives_same _ _ _ _ _ _ c.add_texts.result (word-is c.args.text.now) c.add_texts.ensures.bytes
