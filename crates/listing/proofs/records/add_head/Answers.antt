use Rattle.std.proofs.Common.{rules}
use Rattle.bk_io.proofs.Passing.{same_gives}
use Rattle.listing.proofs.RecordLemmas.{page-is}
use Rattle.listing.proofs.records.add_head.Goals as goal

pub returns-clause-bytes : goal.returns-clause-bytes
returns-clause-bytes g c = same_gives _ _ _ _ _ _ c.add_record.result c.add_record.ensures.bytes (page-is c.args.head _ _ _ _ c.side_name.result c.kind_name.result c.side_name.ensures c.kind_name.ensures (search rules) (search rules) (search rules) (search rules))
