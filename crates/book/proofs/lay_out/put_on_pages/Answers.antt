use Rattle.std.proofs.lemmas.Result.{err_from_is_err_and}
use Rattle.book.proofs.Books.{no_fault}
use Rattle.book.proofs.Stopping.{keeps_same}
use Rattle.book.proofs.lay_out.put_on_pages.Goals as goal

pub returns-in_err-initial-clause-writes : goal.returns-in_err-initial-clause-writes
returns-in_err-initial-clause-writes g c =
    let p = err_from_is_err_and c.from_residual.result c.from_residual.ensures.1 in
    rw (p.1, p.2) (tt, keeps_same _)

pub returns-in_err-initial-clause-fault : goal.returns-in_err-initial-clause-fault
returns-in_err-initial-clause-fault g c =
    let p = err_from_is_err_and c.from_residual.result c.from_residual.ensures.1 in
    rw (p.1, p.2) no_fault

pub returns-in_err-boxes-clause-writes : goal.returns-in_err-boxes-clause-writes
returns-in_err-boxes-clause-writes g c =
    let p = err_from_is_err_and c.from_residual-in_err-boxes.result c.from_residual-in_err-boxes.ensures.1 in
    rw (p.1, p.2) (tt, keeps_same _)

pub returns-in_err-boxes-clause-fault : goal.returns-in_err-boxes-clause-fault
returns-in_err-boxes-clause-fault g c =
    let p = err_from_is_err_and c.from_residual-in_err-boxes.result c.from_residual-in_err-boxes.ensures.1 in
    rw (p.1, p.2) no_fault

pub returns-in_err-initial-clause-lines : goal.returns-in_err-initial-clause-lines
returns-in_err-initial-clause-lines g c =
    let p = err_from_is_err_and c.from_residual.result c.from_residual.ensures.1 in
    rw (p.1, p.2) tt

pub returns-in_err-boxes-clause-lines : goal.returns-in_err-boxes-clause-lines
returns-in_err-boxes-clause-lines g c =
    let p = err_from_is_err_and c.from_residual-in_err-boxes.result c.from_residual-in_err-boxes.ensures.1 in
    rw (p.1, p.2) tt
