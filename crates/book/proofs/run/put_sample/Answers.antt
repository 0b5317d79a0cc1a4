use Rattle.std.proofs.Common.{◌≡◌, ◌∙◌, ◌∷◌, [], ap, arith, subst}
use Rattle.sheets.specs.Files.{file_texts}
use Rattle.sample.specs.Texts.{css_text}
use Rattle.book.specs.Document.{BookTexts, document_of}
use Rattle.book.specs.Laid.{outcome_of}
use Rattle.book.specs.Lines.{MeetsInFew}
use Rattle.book.specs.Run.{Meets}
use Rattle.book.proofs.Samples.{metrics_short, sheets_are, texts_are}
use Rattle.book.proofs.run.put_sample.Goals as goal

pub put_book-requires-clause-small : goal.put_book-requires-clause-small
put_book-requires-clause-small g c = metrics_short c.as_str-2.result.now (c.as_str-2.ensures ∙ c.in_ok-book.ensures.2)

pub returns-clause-answers : goal.returns-clause-answers
returns-clause-answers g c = λ reading h.
    let sheets : file_texts c.deref.result.now ≡ css_text ∷ [] = ap file_texts c.deref.ensures.value ∙ c.in_ok-sheets.ensures ∙ sheets_are c.as_str.result.now (c.as_str.ensures ∙ c.in_ok-book.ensures.1) in
    subst (λ (t : BookTexts). Meets (document_of reading t) (g.O.Sink.taken c.args.out.now) (g.O.Sink.taken c.put_book.new.out) (outcome_of c.put_book.result))
    (texts_are c.args.chapters c.as_str-2.result.now c.as_str-3.result.now (file_texts c.deref.result.now) (c.as_str-2.ensures ∙ c.in_ok-book.ensures.2) (c.as_str-3.ensures ∙ c.in_ok-book.ensures.0) sheets)
    (c.put_book.ensures.answers reading h)

pub put_book-requires-clause-grid : goal.put_book-requires-clause-grid
put_book-requires-clause-grid g c = record { per = record { low = omega arith; high = omega arith }; gap = omega arith }

pub returns-clause-lines : goal.returns-clause-lines
returns-clause-lines g c = λ reading h.
    let sheets : file_texts c.deref.result.now ≡ css_text ∷ [] = ap file_texts c.deref.ensures.value ∙ c.in_ok-sheets.ensures ∙ sheets_are c.as_str.result.now (c.as_str.ensures ∙ c.in_ok-book.ensures.1) in
    subst (λ (t : BookTexts). MeetsInFew (document_of reading t) (outcome_of c.put_book.result) c.args.steps.now c.put_book.new.steps)
    (texts_are c.args.chapters c.as_str-2.result.now c.as_str-3.result.now (file_texts c.deref.result.now) (c.as_str-2.ensures ∙ c.in_ok-book.ensures.2) (c.as_str-3.ensures ∙ c.in_ok-book.ensures.0) sheets)
    (c.put_book.ensures.lines reading h)
