use Rattle.book.proofs.NearLemmas.{boxes_are}
use Rattle.book.proofs.lay_out.boxes_of.Goals as goal

pub returns : goal.returns
returns c = boxes_are c.args.styled.now c.resolve.result (rw (c.as_slice.ensures) at c.resolve.ensures.table) c.resolve.ensures.good (rw (c.as_slice.ensures) at c.resolve.ensures.boxes)
