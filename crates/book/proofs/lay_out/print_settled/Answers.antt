use Rattle.std.proofs.Common.{◌∙◌, arith, subst}
use Rattle.std.proofs.lemmas.Result.{err_from_is_err_and}
use Rattle.listing.specs.Printed.{Print, listing_of}
use Rattle.listing.specs.Puts.{Puts}
use Rattle.book.proofs.Conditions.{can_be_painted}
use Rattle.book.proofs.Stopping.{keeps_same}
use Rattle.book.proofs.Tables.{print_is}
use Rattle.book.proofs.lay_out.print_settled.Goals as goal

pub print-requires : goal.print-requires
print-requires g c = record {
  painted = can_be_painted c.args.styled.now.faces c.args.laid.now.flow c.requires.good;
  frames = c.requires.frames;
  per = c.requires.grid.per;
  pages = c.requires.pages;
  numbers = c.as_slice.ensures.value ∙ c.in_ok-numbers.ensures;
  strings = c.in_ok-strings.ensures;
  few = omega (arith, c.requires.few);
}

pub returns-clause-bytes : goal.returns-clause-bytes
returns-clause-bytes g c =
    let s = c.args.styled.now in
    let laid = c.args.laid.now in
    subst (λ (p : Print). Puts (g.O.Sink.taken c.args.out.now) (g.O.Sink.taken c.print.new.out) (listing_of p c.args.pages.now.pages) c.print.result)
    (print_is s.rules s.names s.faces s.grid.columns laid.passes laid.flow laid.pages.pages c.args.boxes.now c.requires.boxes.table c.requires.boxes.boxes) c.print.ensures.bytes

pub returns-in_err-numbers-clause-bytes : goal.returns-in_err-numbers-clause-bytes
returns-in_err-numbers-clause-bytes g c =
    let p = err_from_is_err_and c.from_residual.result c.from_residual.ensures.1 in
    rw (p.1, p.2) (keeps_same _)

pub returns-in_err-strings-clause-bytes : goal.returns-in_err-strings-clause-bytes
returns-in_err-strings-clause-bytes g c =
    let p = err_from_is_err_and c.from_residual-in_err-strings.result c.from_residual-in_err-strings.ensures.1 in
    rw (p.1, p.2) (keeps_same _)
