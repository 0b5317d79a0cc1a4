use Rattle.std.proofs.Common.{subst, sym}
use Rattle.std.proofs.lemmas.Result.{err_from_is_err_and}
use Rattle.book.specs.Document.{document_of}
use Rattle.book.specs.DocumentView.{document_in, texts_in, HasSheets}
use Rattle.book.specs.Expect.{IsGiven}
use Rattle.book.specs.declared.document.Document.{Document as InMemory}
use Rattle.book.proofs.Documents.{document_given, sheets_refused}
use Rattle.soft_hyphens.specs.Words.{points_in}
use Rattle.book.proofs.document.read_document.Goals as goal

pub returns-in_err-sheets-clause-document : goal.returns-in_err-sheets-clause-document
returns-in_err-sheets-clause-document c =
    let p = err_from_is_err_and c.from_residual-in_err-sheets.result c.from_residual-in_err-sheets.ensures.1 in
    λ reading h. rw (p.1, p.2) (sheets_refused reading (texts_in c.args.texts) c.in_ok-faces.faces (points_in c.in_ok-patterns.patterns) c.in_ok-dom.dom
    c.in_ok-faces.ensures.faces c.in_ok-patterns.ensures.points c.in_ok-dom.ensures.nodes c.in_err-sheets.field-0.0 (c.in_err-sheets.ensures.sheets reading h))

pub returns-in_err-sheets-clause-of_texts : goal.returns-in_err-sheets-clause-of_texts
returns-in_err-sheets-clause-of_texts c =
    let p = err_from_is_err_and c.from_residual-in_err-sheets.result c.from_residual-in_err-sheets.ensures.1 in
    rw (p.1, p.2) c.in_err-sheets.ensures.of_texts

pub returns-in_err-boxed-clause-document : goal.returns-in_err-boxed-clause-document
returns-in_err-boxed-clause-document c =
    let p = err_from_is_err_and c.from_residual-in_err-boxed.result c.from_residual-in_err-boxed.ensures.1 in
    λ reading h. rw (p.1, p.2) tt

pub returns-in_err-boxed-clause-of_texts : goal.returns-in_err-boxed-clause-of_texts
returns-in_err-boxed-clause-of_texts c =
    let p = err_from_is_err_and c.from_residual-in_err-boxed.result c.from_residual-in_err-boxed.ensures.1 in
    rw (p.1, p.2) tt

pub returns-clause-document : goal.returns-clause-document
returns-clause-document c =
    λ reading h. subst (λ (d : InMemory). IsGiven (document_of reading (texts_in c.args.texts)) (document_in d)) (sym c.in_ok-boxed.ensures)
    (document_given reading (texts_in c.args.texts) c.in_ok-faces.faces (points_in c.in_ok-patterns.patterns) c.in_ok-dom.dom c.in_ok-faces.ensures.faces
    c.in_ok-patterns.ensures.points c.in_ok-dom.ensures.nodes (c.in_ok-sheets.ensures.sheets reading h))

pub returns-clause-read : goal.returns-clause-read
returns-clause-read c = subst HasSheets (sym c.in_ok-boxed.ensures) (record { read = c.in_ok-sheets.ensures.read; pages = c.in_ok-sheets.ensures.pages })
