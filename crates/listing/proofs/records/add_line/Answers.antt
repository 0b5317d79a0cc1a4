use Rattle.std.proofs.Common.{rules}
use Rattle.bk_io.proofs.Passing.{same_gives}
use Rattle.listing.proofs.RecordLemmas.{line-is}
use Rattle.listing.proofs.records.add_line.Goals as goal

pub returns-clause-bytes : goal.returns-clause-bytes
returns-clause-bytes g c = same_gives _ _ _ _ _ _ c.add_record.result c.add_record.ensures.bytes (line-is c.args.area.now _ _ _ _ (search rules) (search rules) (search rules) (search rules))
