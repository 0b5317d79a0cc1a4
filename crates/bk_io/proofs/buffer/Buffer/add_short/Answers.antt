use Rattle.std.proofs.Common.{[]}
use Rattle.std.proofs.lemmas.Result.{err_from_is_err_and}
use Rattle.bk_io.proofs.Passing.{prefix_more}
use Rattle.bk_io.proofs.buffer.Buffer.add_short.Goals as goal

pub returns-in_err-make_room-clause-bytes : goal.returns-in_err-make_room-clause-bytes
returns-in_err-make_room-clause-bytes g c =
    let p = err_from_is_err_and c.from_residual.result c.from_residual.ensures.1 in
    rw p.1 (prefix_more _ _ c.args.self.now [] c.args.piece.now c.in_err-make_room.ensures.bytes)
