use Rattle.std.proofs.Common.{rules}
use Rattle.bk_io.proofs.Passing.{same_gives}
use Rattle.listing.proofs.RecordLemmas.{text-is}
use Rattle.listing.proofs.records.add_text.Goals as goal

pub returns-clause-bytes : goal.returns-clause-bytes
returns-clause-bytes g c = same_gives _ _ _ _ _ _ c.add_record.result c.add_record.ensures.bytes (text-is c.args.faces.now c.args.style.now c.label_of.result _ _ _ _ c.label_of.ensures (search rules) (search rules) (search rules))
