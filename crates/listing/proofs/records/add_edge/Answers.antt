use Rattle.std.proofs.Common.{rules}
use Rattle.bk_io.proofs.Passing.{same_gives}
use Rattle.listing.proofs.RecordLemmas.{edge-is}
use Rattle.listing.proofs.records.add_edge.Goals as goal

pub returns-clause-bytes : goal.returns-clause-bytes
returns-clause-bytes g c = same_gives _ _ _ _ _ _ c.add_record.result c.add_record.ensures.bytes (edge-is c.args.opens c.edge_name.result c.args.area.now _ _ _ _ c.edge_name.ensures (search rules) (search rules) (search rules) (search rules))
