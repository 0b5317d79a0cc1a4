use Rattle.std.proofs.Common.{ℕ, ◌<◌, sym, subst}
use Rattle.book.specs.DocumentView.{document_in}
use Rattle.book.specs.Laid.{IsStyledOf, outcome_of}
use Rattle.book.proofs.Books.{fills_few, good_grid, laid_out}
use Rattle.book.proofs.lay_out.lay_out.Goals as goal

pub put_on_pages-requires-clause-passes : goal.put_on_pages-requires-clause-passes
put_on_pages-requires-clause-passes g c =
    let of = subst (IsStyledOf (document_in c.args.document.value)) (sym c.deref.ensures) c.in_ok-styled.ensures.of in
    subst (λ (n : ℕ). 0 < n) (sym of.passes) c.requires.passes

pub put_on_pages-requires-clause-grid : goal.put_on_pages-requires-clause-grid
put_on_pages-requires-clause-grid g c =
    let of = subst (IsStyledOf (document_in c.args.document.value)) (sym c.deref.ensures) c.in_ok-styled.ensures.of in
    good_grid (document_in c.args.document.value) c.deref.result.now of c.requires.grid

pub returns-clause-writes : goal.returns-clause-writes
returns-clause-writes g c =
    let d = document_in c.args.document.value in
    let s = c.deref.result.now in
    let of = subst (IsStyledOf d) (sym c.deref.ensures) c.in_ok-styled.ensures.of in
    let grid = good_grid d s of c.requires.grid in
    (laid_out d s of c.page_laws.ensures grid _ _ (outcome_of c.put_on_pages.result) c.put_on_pages.ensures.writes).0

pub returns-clause-put : goal.returns-clause-put
returns-clause-put g c =
    let d = document_in c.args.document.value in
    let s = c.deref.result.now in
    let of = subst (IsStyledOf d) (sym c.deref.ensures) c.in_ok-styled.ensures.of in
    let grid = good_grid d s of c.requires.grid in
    (laid_out d s of c.page_laws.ensures grid _ _ (outcome_of c.put_on_pages.result) c.put_on_pages.ensures.writes).1

pub returns-clause-of_book : goal.returns-clause-of_book
returns-clause-of_book g c =
    let d = document_in c.args.document.value in
    let s = c.deref.result.now in
    let of = subst (IsStyledOf d) (sym c.deref.ensures) c.in_ok-styled.ensures.of in
    let grid = good_grid d s of c.requires.grid in
    (laid_out d s of c.page_laws.ensures grid _ _ (outcome_of c.put_on_pages.result) c.put_on_pages.ensures.writes).2

pub returns-clause-lines : goal.returns-clause-lines
returns-clause-lines g c =
    let d = document_in c.args.document.value in
    let s = c.deref.result.now in
    let of = subst (IsStyledOf d) (sym c.deref.ensures) c.in_ok-styled.ensures.of in
    fills_few d s of (outcome_of c.put_on_pages.result) _ _ c.put_on_pages.ensures.lines
