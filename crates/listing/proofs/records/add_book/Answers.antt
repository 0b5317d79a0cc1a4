use Rattle.std.proofs.Common.{rules}
use Rattle.bk_io.proofs.Passing.{same_gives}
use Rattle.listing.proofs.RecordLemmas.{book-is}
use Rattle.listing.proofs.records.add_book.Goals as goal

pub returns-clause-bytes : goal.returns-clause-bytes
returns-clause-bytes g c = same_gives _ _ _ _ _ _ c.add_record.result c.add_record.ensures.bytes (book-is c.args.pages c.args.passes _ _ (search rules) (search rules))
