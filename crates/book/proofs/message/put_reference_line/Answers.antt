use Rattle.std.proofs.Math.Facts.{to_z-of_z}
use Rattle.bk_io.proofs.Passing.{flushed}
use Rattle.book.proofs.message.put_reference_line.Goals as goal

pub returns-clause-bytes : goal.returns-clause-bytes
returns-clause-bytes g c =
    let added = rw (to_z-of_z c.ranges.before, to_z-of_z c.ranges.after) at c.in_ok-add_reference.ensures.bytes in
    flushed _ _ _ _ _ _ _ c.flush.result c.new-line.ensures added c.flush.ensures.bytes c.flush.ensures.empty
