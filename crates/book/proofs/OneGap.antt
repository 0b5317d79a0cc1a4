-- Words that ask for one column expect one book, whatever the gap is.
use Rattle.std.proofs.Common.{◌≡◌, ◌∙◌, ℕ, List, refl, sym, ap, subst}
use Rattle.bk_io.specs.Shelf.{Told}
use Rattle.html_tree.specs.Tree.{tree_of}
use Rattle.metrics.specs.Text.{faces_of}
use Rattle.named_files.specs.declared.file.FileOf.TheVariants as file
use Rattle.sheets.specs.Readings.{SheetOf}
use Rattle.sheets.specs.Sheets.{author_texts, element_sheets}
use Rattle.words.specs.Asked.{FormatWords}
use Rattle.book.specs.Answer.{IsBookOf}
use Rattle.book.specs.Document.{Document, BookTexts, document_of, faces_expected, grid_of, nodes_expected, patterns_expected, sheets_expected}
use Rattle.book.specs.Expect.{Expect, free, refused, given, ◌>>=◌}
use Rattle.book.specs.Laws.{ExpectedIsTree, HasOneBook, OneColumnIsExpected, with_gap}
use Rattle.book.specs.Request.{Task}
use Rattle.book.specs.Run.{OneIsExpected, expected, patterns_named, sheets_from, text_of, texts_for, texts_named}
use Rattle.book.specs.declared.document.ColumnGrid.{ColumnGrid}
use Rattle.book.proofs.OneAnswer.{document_or, given_through}
use Rattle.book.proofs.OneColumn.{has_no_gap}

abbrev changed : {A B : Type 0} → (A → B) → Expect A → Expect B
changed f free = free
changed f (refused o) = refused o
changed f (given x) = given (f x)

-- the same step leads to a changed value
changed_next : {A C D : Type 0} (g : C → D) (k : A → Expect C) (l : A → Expect D) → ((a : A) → l a ≡ changed g (k a)) → (x : Expect A) → (x >>= l) ≡ changed g (x >>= k)
changed_next g k l same free = refl
changed_next g k l same (refused o) = refl
changed_next g k l same (given a) = same a

-- a step from a changed value leads to a changed value
changed_before : {A B C D : Type 0} (f : A → B) (g : C → D) (k : A → Expect C) (l : B → Expect D) → ((a : A) → l (f a) ≡ changed g (k a)) → (x : Expect A) → (changed f x >>= l) ≡ changed g (x >>= k)
changed_before f g k l same free = refl
changed_before f g k l same (refused o) = refl
changed_before f g k l same (given a) = same a

abbrev texts_gap : ℕ → BookTexts → BookTexts
texts_gap gap t = record t { grid = record t.grid { gap = gap } }

abbrev words_gap : ℕ → FormatWords → FormatWords
words_gap gap names = record names { gap = gap }

abbrev texts_or : BookTexts → Expect BookTexts → BookTexts
texts_or t free = t
texts_or t (refused p) = t
texts_or t (given s) = s

named_again : (names : FormatWords) (gap : ℕ) (told : List ℕ → Told) → texts_named (words_gap gap names) told ≡ changed (texts_gap gap) (texts_named names told)
named_again names gap told =
    changed_next (texts_gap gap) _ _ (λ metrics.
    changed_next (texts_gap gap) _ _ (λ html.
    changed_next (texts_gap gap) _ _ (λ sheets.
    changed_next (texts_gap gap) _ _ (λ patterns. refl)
    (patterns_named told names.patterns)) (sheets_from 1 told names.sheets)) (text_of file.Html (told names.html))) (text_of file.Metrics (told names.metrics))

module _ (reading : List ℕ → SheetOf) where
  document_again : (gap : ℕ) (t : BookTexts) → document_of reading (texts_gap gap t) ≡ changed (with_gap gap) (document_of reading t)
  document_again gap t =
      changed_next (with_gap gap) _ _ (λ faces.
      changed_next (with_gap gap) _ _ (λ points.
      changed_next (with_gap gap) _ _ (λ nodes.
      changed_next (with_gap gap) _ _ (λ few. refl)
      (sheets_expected reading (author_texts (element_sheets nodes) t.sheets))) (nodes_expected (tree_of t.html))) (patterns_expected t.patterns)) (faces_expected (faces_of t.metrics))

  both_again : (names : FormatWords) (gap : ℕ) (told : List ℕ → Told) → (texts_named (words_gap gap names) told >>= document_of reading) ≡ changed (with_gap gap) (texts_named names told >>= document_of reading)
  both_again names gap told =
      ap (λ (t : Expect BookTexts). t >>= document_of reading) (named_again names gap told) ∙ changed_before (texts_gap gap) (with_gap gap) (document_of reading) (document_of reading) (document_again gap) (texts_named names told)

  -- a document has the columns that are asked for
  text_grid : (t : BookTexts) (d : Document) → document_of reading t ≡ given d → t.grid ≡ d.grid
  text_grid t d e =
      let (faces, e1, f) = given_through (faces_expected (faces_of t.metrics)) _ d e in
      let (points, e2, p) = given_through (patterns_expected t.patterns) _ d e1 in
      let (nodes, e3, n) = given_through (nodes_expected (tree_of t.html)) _ d e2 in
      let (few, e4, s) = given_through (sheets_expected reading (author_texts (element_sheets nodes) t.sheets)) _ d e3 in
      ap (λ (x : Expect Document). (document_or d x).grid) e4

  named_grid : (names : FormatWords) (told : List ℕ → Told) (t : BookTexts) → texts_named names told ≡ given t → grid_of names ≡ t.grid
  named_grid names told t e =
      let (metrics, e1, m) = given_through (text_of file.Metrics (told names.metrics)) _ t e in
      let (html, e2, h) = given_through (text_of file.Html (told names.html)) _ t e1 in
      let (sheets, e3, s) = given_through (sheets_from 1 told names.sheets) _ t e2 in
      let (patterns, e4, p) = given_through (patterns_named told names.patterns) _ t e3 in
      ap (λ (x : Expect BookTexts). (texts_or t x).grid) e4

  asked_grid : (names : FormatWords) (told : List ℕ → Told) (d : Document) → (texts_named names told >>= document_of reading) ≡ given d → grid_of names ≡ d.grid
  asked_grid names told d e =
      let (t, e1, named) = given_through (texts_named names told) (document_of reading) d e in
      named_grid names told t named ∙ text_grid t d e1

pub is_expected : OneIsExpected → ExpectedIsTree → HasOneBook → OneColumnIsExpected
is_expected one trees books ws others told names gap d e b c column w v x y p q =
    let after : Expect Task → Expect Document = λ t. (t >>= λ task. texts_for task told) >>= document_of x.reading in
    let asked_d : (texts_named names told >>= document_of x.reading) ≡ given d = ap after (sym w) ∙ sym x.is in
    let again : given (with_gap gap d) ≡ expected x.reading others told = ap (changed (with_gap gap)) (sym asked_d) ∙ sym (both_again x.reading names gap told) ∙ ap after (sym v) in
    let same : given e ≡ given (with_gap gap d) = one others told (given e) (given (with_gap gap d)) y (record { reading = x.reading; reads = x.reads; is = again }) in
    let document : e ≡ with_gap gap d = ap (document_or d) same in
    let columns : d.grid.columns ≡ 1 = ap (λ (g : ColumnGrid). g.columns) (sym (asked_grid x.reading names told d asked_d)) ∙ column in
    has_no_gap books d gap b c columns (trees ws told d x) p (subst (λ (z : Document). IsBookOf z c) document q)
