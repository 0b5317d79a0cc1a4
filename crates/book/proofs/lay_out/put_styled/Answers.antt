use Rattle.std.proofs.lemmas.Result.{err_from_is_err_and}
use Rattle.book.proofs.Books.{no_fault, put_done, put_fails, stops_write}
use Rattle.book.proofs.Stopping.{keeps_same}
use Rattle.book.proofs.LineLemmas.{ends_few, print_few}
use Rattle.book.proofs.lay_out.put_styled.Goals as goal

pub put_settled-requires : goal.put_settled-requires
put_settled-requires g c = record {
  good = c.in_ok-laid.ensures.good;
  boxes = c.requires.boxes;
  frames = c.in_ok-laid.ensures.frames;
  grid = c.requires.grid;
  pages = c.in_ok-pages.ensures.pages;
  few = c.in_ok-pages.ensures.few;
}

pub returns-in_err-laid-clause-writes : goal.returns-in_err-laid-clause-writes
returns-in_err-laid-clause-writes g c =
    let p = err_from_is_err_and c.from_residual.result c.from_residual.ensures.1 in
    rw (p.1, p.2) (stops_write c.args.styled.now _ c.in_err-laid.field-0.0 c.in_err-laid.ensures.stops)

pub returns-in_err-pages-clause-writes : goal.returns-in_err-pages-clause-writes
returns-in_err-pages-clause-writes g c =
    let p = err_from_is_err_and c.from_residual-in_err-pages.result c.from_residual-in_err-pages.ensures.1 in
    rw (p.1, p.2) (tt, keeps_same _)

pub returns-in_err-pages-clause-fault : goal.returns-in_err-pages-clause-fault
returns-in_err-pages-clause-fault g c =
    let p = err_from_is_err_and c.from_residual-in_err-pages.result c.from_residual-in_err-pages.ensures.1 in
    rw (p.1, p.2) no_fault

pub returns-in_err-put_settled-clause-writes : goal.returns-in_err-put_settled-clause-writes
returns-in_err-put_settled-clause-writes g c =
    let s = c.args.styled.now in
    let laid = c.in_ok-laid.laid in
    let p = err_from_is_err_and c.from_residual-in_err-put_settled.result c.from_residual-in_err-put_settled.ensures.1 in
    rw (p.1, p.2) (put_fails s laid.passes laid.flow laid.pages.pages laid.table c.in_ok-laid.ensures.settled c.in_ok-laid.ensures.good.paged c.in_ok-pages.pages.pages c.in_ok-pages.ensures.pages _ _ c.in_err-put_settled.field-0.0 c.in_err-put_settled.ensures.bytes)

pub returns-clause-writes : goal.returns-clause-writes
returns-clause-writes g c =
    let s = c.args.styled.now in
    let laid = c.in_ok-laid.laid in
    put_done s laid.passes laid.flow laid.pages.pages laid.table c.in_ok-laid.ensures.settled c.in_ok-laid.ensures.good.paged c.in_ok-pages.pages.pages c.in_ok-pages.ensures.pages _ _ c.count_of.result c.count_of.ensures c.in_ok-put_settled.ensures.bytes

pub returns-in_err-laid-clause-lines : goal.returns-in_err-laid-clause-lines
returns-in_err-laid-clause-lines g c =
    let p = err_from_is_err_and c.from_residual.result c.from_residual.ensures.1 in
    rw (p.1, p.2) (ends_few c.args.styled.now c.in_err-laid.field-0.0 _ _ c.in_err-laid.ensures.stops c.in_err-laid.ensures.lines)

pub returns-in_err-pages-clause-lines : goal.returns-in_err-pages-clause-lines
returns-in_err-pages-clause-lines g c =
    let p = err_from_is_err_and c.from_residual-in_err-pages.result c.from_residual-in_err-pages.ensures.1 in
    rw (p.1, p.2) tt

pub returns-in_err-put_settled-clause-lines : goal.returns-in_err-put_settled-clause-lines
returns-in_err-put_settled-clause-lines g c =
    let p = err_from_is_err_and c.from_residual-in_err-put_settled.result c.from_residual-in_err-put_settled.ensures.1 in
    rw (p.1, p.2) (print_few c.args.styled.now c.in_err-put_settled.field-0.0 _ _)

pub returns-clause-lines : goal.returns-clause-lines
returns-clause-lines g c = c.in_ok-laid.ensures.lines
