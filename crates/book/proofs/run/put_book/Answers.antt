use Rattle.std.proofs.Common.{◌≡◌, ℕ, ◌<◌, subst, sym}
use Rattle.std.proofs.lemmas.Result.{err_from_is_err_and}
use Rattle.book.specs.Document.{IsGoodGrid, document_of}
use Rattle.book.specs.DocumentView.{document_in, texts_in}
use Rattle.book.specs.Laid.{outcome_of}
use Rattle.book.specs.Run.{IsOfTexts}
use Rattle.book.specs.declared.outcome.Outcome.TheVariants as out
use Rattle.book.proofs.Stopping.{document_meets, halts_meet, of_book, puts_nothing, refused_halts}
use Rattle.book.proofs.LineLemmas.{given_few, refused_few}
use Rattle.book.proofs.run.put_book.Goals as goal

pub lay_out-requires-clause-passes : goal.lay_out-requires-clause-passes
lay_out-requires-clause-passes g c = subst (λ (n : ℕ). 0 < n) (sym c.in_ok-document.ensures.passes) c.requires.some

pub lay_out-requires-clause-grid : goal.lay_out-requires-clause-grid
lay_out-requires-clause-grid g c = subst IsGoodGrid (sym c.in_ok-document.ensures.grid) c.requires.grid

pub returns-in_err-document-clause-answers : goal.returns-in_err-document-clause-answers
returns-in_err-document-clause-answers g c =
    let p = err_from_is_err_and c.from_residual.result c.from_residual.ensures.1 in
    let o = c.in_err-document.field-0.0 in
    λ reading h. let e = document_of reading (texts_in c.args.texts) in rw (p.1, p.2) (halts_meet e _ _ o (refused_halts e o (c.in_err-document.ensures.document reading h)))

pub returns-in_err-document-clause-put : goal.returns-in_err-document-clause-put
returns-in_err-document-clause-put g c =
    let p = err_from_is_err_and c.from_residual.result c.from_residual.ensures.1 in
    rw (p.1, p.2) (puts_nothing _ c.in_err-document.field-0.0)

pub returns-in_err-document-clause-of_book : goal.returns-in_err-document-clause-of_book
returns-in_err-document-clause-of_book g c =
    let p = err_from_is_err_and c.from_residual.result c.from_residual.ensures.1 in
    rw (p.1, p.2) (of_book c.in_err-document.field-0.0 c.in_err-document.ensures.of_texts)

pub returns-in_err-document-clause-fault : goal.returns-in_err-document-clause-fault
returns-in_err-document-clause-fault g c =
    let p = err_from_is_err_and c.from_residual.result c.from_residual.ensures.1 in
    let o = c.in_err-document.field-0.0 in
    let none : o ≡ out.WriteFault → ⊥ = λ e. subst IsOfTexts e c.in_err-document.ensures.of_texts in
    rw (p.1, p.2) (λ e. absurd (none e))

pub returns-clause-answers : goal.returns-clause-answers
returns-clause-answers g c = λ reading h.
    document_meets (document_of reading (texts_in c.args.texts)) (document_in c.in_ok-document.document.value) _ _ (outcome_of c.lay_out.result) (c.in_ok-document.ensures.document reading h) c.lay_out.ensures.writes

pub returns-in_err-document-clause-lines : goal.returns-in_err-document-clause-lines
returns-in_err-document-clause-lines g c =
    let p = err_from_is_err_and c.from_residual.result c.from_residual.ensures.1 in
    let o = c.in_err-document.field-0.0 in
    λ reading h. let e = document_of reading (texts_in c.args.texts) in rw (p.1, p.2) (refused_few e o _ _ (c.in_err-document.ensures.document reading h))

pub returns-clause-lines : goal.returns-clause-lines
returns-clause-lines g c = λ reading h.
    given_few (document_of reading (texts_in c.args.texts)) (document_in c.in_ok-document.document.value) (outcome_of c.lay_out.result) _ _ (c.in_ok-document.ensures.document reading h) c.lay_out.ensures.lines
