use Rattle.std.proofs.Common.{[]}
use Rattle.std.proofs.lemmas.Result.{err_from_is_err_and}
use Rattle.bk_io.proofs.Passing.{prefix_more, put_after}
use Rattle.bk_io.proofs.buffer.Buffer.put_past.Goals as goal

pub returns-in_err-flush-clause-bytes : goal.returns-in_err-flush-clause-bytes
returns-in_err-flush-clause-bytes g c =
    let p = err_from_is_err_and c.from_residual.result c.from_residual.ensures.1 in
    rw p.1 (prefix_more _ _ c.args.self.now [] c.args.piece.now c.in_err-flush.ensures.bytes)

pub returns-clause-bytes : goal.returns-clause-bytes
returns-clause-bytes g c = put_after _ _ _ _ _ _ c.put_all.result c.in_ok-flush.ensures.bytes c.in_ok-flush.ensures.empty c.put_all.ensures.bytes
