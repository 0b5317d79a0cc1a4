use Rattle.std.proofs.Common.{◌≡◌, ◌∙◌, ℕ, ◌<◌, arith, subst, sym}
use Rattle.std.proofs.lemmas.Result.{err_from_is_err_and}
use Rattle.words.specs.Asked.{format_view}
use Rattle.book.specs.Document.{IsGoodGrid, BookTexts, grid_of}
use Rattle.book.specs.declared.document.ColumnGrid.{ColumnGrid}
use Rattle.book.specs.DocumentView.{texts_in}
use Rattle.book.specs.Expect.{IsGiven}
use Rattle.book.specs.FilesView.{listed_texts}
use Rattle.book.specs.Laid.{outcome_of}
use Rattle.book.specs.Run.{IsOfFiles, texts_named}
use Rattle.book.specs.declared.outcome.Outcome.TheVariants as out
use Rattle.book.proofs.Stopping.{book_cause, halts_meet, kept_count, puts_nothing, reading_cause, texts_meet, texts_stop}
use Rattle.book.proofs.LineLemmas.{stops_few, texts_few}
use Rattle.book.proofs.run.put_files.Goals as goal

pub returns-in_err-files-clause-answers : goal.returns-in_err-files-clause-answers
returns-in_err-files-clause-answers g c =
    let p = err_from_is_err_and c.from_residual.result c.from_residual.ensures.1 in
    let o = c.in_err-files.field-0.0 in
    let texts = texts_named (format_view c.args.names.now) (g.F.Shelf.told c.args.shelf.now) in
    λ reading h. rw (p.1, p.2) (halts_meet _ _ _ o (texts_stop reading texts o c.in_err-files.ensures.texts))

pub returns-in_err-files-clause-put : goal.returns-in_err-files-clause-put
returns-in_err-files-clause-put g c =
    let p = err_from_is_err_and c.from_residual.result c.from_residual.ensures.1 in
    rw (p.1, p.2) (puts_nothing _ c.in_err-files.field-0.0)

pub returns-in_err-files-clause-cause : goal.returns-in_err-files-clause-cause
returns-in_err-files-clause-cause g c =
    let p = err_from_is_err_and c.from_residual.result c.from_residual.ensures.1 in
    rw (p.1, p.2) (reading_cause (format_view c.args.names.now) (g.F.Shelf.told c.args.shelf.now) _ _ _ c.in_err-files.field-0.0 c.in_err-files.ensures.cause)

pub returns-in_err-files-clause-fault : goal.returns-in_err-files-clause-fault
returns-in_err-files-clause-fault g c =
    let p = err_from_is_err_and c.from_residual.result c.from_residual.ensures.1 in
    let o = c.in_err-files.field-0.0 in
    let none : o ≡ out.WriteFault → ⊥ = λ e. subst (IsOfFiles (format_view c.args.names.now) (g.F.Shelf.told c.args.shelf.now) _ _ _) e c.in_err-files.ensures.cause in
    rw (p.1, p.2) (λ e. absurd (none e))

pub put_book-requires-clause-some : goal.put_book-requires-clause-some
put_book-requires-clause-some g c = subst (λ (n : ℕ). 0 < n) (sym (c.listed_texts-texts.ensures.passes ∙ c.from.ensures)) (let least = c.requires.passes_least in omega arith)

pub put_book-requires-clause-grid : goal.put_book-requires-clause-grid
put_book-requires-clause-grid g c = subst IsGoodGrid (sym c.listed_texts-texts.ensures.grid) c.grid_of.ensures.good

pub returns-clause-answers : goal.returns-clause-answers
returns-clause-answers g c = λ reading h.
    let names = texts_named (format_view c.args.names.now) (g.F.Shelf.told c.args.shelf.now) in
    let files = c.in_ok-files.files in
    let grid = grid_of (format_view c.args.names.now) in
    let read : IsGiven names (listed_texts c.from.result grid files) = subst (λ (n : ℕ). IsGiven names (listed_texts n grid files)) (sym c.from.ensures) c.in_ok-files.ensures.texts in
    let same : IsGiven names (listed_texts c.from.result c.grid_of.result files) = subst (λ (g : ColumnGrid). IsGiven names (listed_texts c.from.result g files)) (sym c.grid_of.ensures.grid) read in
    texts_meet reading names (texts_in c.listed_texts-texts.result) _ _ (outcome_of c.put_book.result) (subst (λ (t : BookTexts). IsGiven names t) (sym c.listed_texts-texts.ensures.texts) same) (c.put_book.ensures.answers reading h)

pub returns-clause-cause : goal.returns-clause-cause
returns-clause-cause g c = book_cause (format_view c.args.names.now) (g.F.Shelf.told c.args.shelf.now) _ _ _ (outcome_of c.put_book.result) c.put_book.ensures.of_book

pub returns-in_err-files-clause-count : goal.returns-in_err-files-clause-count
returns-in_err-files-clause-count g c =
    let p = err_from_is_err_and c.from_residual.result c.from_residual.ensures.1 in
    rw (p.1, p.2) c.in_err-files.ensures.count

pub returns-clause-count : goal.returns-clause-count
returns-clause-count g c = kept_count _ _ (outcome_of c.put_book.result) c.in_ok-files.ensures.count

pub returns-in_err-files-clause-lines : goal.returns-in_err-files-clause-lines
returns-in_err-files-clause-lines g c =
    let p = err_from_is_err_and c.from_residual.result c.from_residual.ensures.1 in
    let o = c.in_err-files.field-0.0 in
    let texts = texts_named (format_view c.args.names.now) (g.F.Shelf.told c.args.shelf.now) in
    λ reading h. rw (p.1, p.2) (stops_few reading texts o _ _ c.in_err-files.ensures.texts)

pub returns-clause-lines : goal.returns-clause-lines
returns-clause-lines g c = λ reading h.
    let names = texts_named (format_view c.args.names.now) (g.F.Shelf.told c.args.shelf.now) in
    let files = c.in_ok-files.files in
    let grid = grid_of (format_view c.args.names.now) in
    let read : IsGiven names (listed_texts c.from.result grid files) = subst (λ (n : ℕ). IsGiven names (listed_texts n grid files)) (sym c.from.ensures) c.in_ok-files.ensures.texts in
    let same : IsGiven names (listed_texts c.from.result c.grid_of.result files) = subst (λ (g : ColumnGrid). IsGiven names (listed_texts c.from.result g files)) (sym c.grid_of.ensures.grid) read in
    texts_few reading names (texts_in c.listed_texts-texts.result) (outcome_of c.put_book.result) _ _ (subst (λ (t : BookTexts). IsGiven names t) (sym c.listed_texts-texts.ensures.texts) same) (c.put_book.ensures.lines reading h)
