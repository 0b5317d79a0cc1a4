use Rattle.bk_io.proofs.Passing.{flushed}
use Rattle.listing.proofs.write.write_head.Goals as goal

pub returns-clause-bytes : goal.returns-clause-bytes
returns-clause-bytes g c = flushed _ _ _ _ _ _ _ c.flush.result c.new-buffer.ensures c.in_ok-add_book.ensures.bytes c.flush.ensures.bytes c.flush.ensures.empty
