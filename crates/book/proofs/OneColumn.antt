-- In one column frames are pages, and the gap changes nothing.
use Rattle.std.proofs.Common.{◌≡◌, ◌∙◌, ℕ, List, sym, ap}
use Rattle.boxes.specs.declared.flow.Flow.{Flow}
use Rattle.boxes.specs.declared.page.Page.{Page}
use Rattle.counters.specs.Document.{values_of}
use Rattle.css_page.specs.declared.rules.PageRule.{PageRule}
use Rattle.gen_text.specs.declared.table.Entry.{Entry}
use Rattle.page_list.specs.Laws.{PagesAreNumbered}
use Rattle.page_seq.specs.FoldLaws.{AreNumbered, OneIsAPage}
use Rattle.page_seq.specs.Folds.{fold_of}
use Rattle.passes.specs.Passes.{End, EndsIn, IsLast, settled, unsettled, long, many, settles, differs, too_long, too_many}
use Rattle.passes.specs.Work.{Work}
use Rattle.book.specs.Answer.{Book, IsBookOf}
use Rattle.book.specs.Document.{Document}
use Rattle.book.specs.Flow.{IsWorkOf, asked_of, gap_units, page_frames, whole_frames, work_by}
use Rattle.book.specs.Laws.{HasOneBook, OneColumnHasNoGap, OneColumnIsThePage, with_gap}
use Rattle.book.specs.declared.document.ColumnGrid.{ColumnGrid}
use Rattle.book.proofs.ColumnLemmas.{one_column}
use Rattle.book.proofs.Tables.{whole_widths}

-- ---- the frames of a book are numbered

abbrev NumberedEnd : End → Type 0
NumberedEnd (settled passes flow pages table) = AreNumbered 1 pages
NumberedEnd (unsettled target before after) = Unit {0}
NumberedEnd long = Unit {0}
NumberedEnd many = Unit {0}

last_numbered : PagesAreNumbered → (w : Work) (limit k : ℕ) (table : List Entry) (end : End) → IsLast w limit k table end → NumberedEnd end
last_numbered law w limit k table _ (settles flow pages pass) = law w.faces flow w.frames pages pass.paged
last_numbered law w limit k table _ (differs a b u n s place d x y) = tt
last_numbered law w limit k table _ (too_long flow is much) = tt
last_numbered law w limit k table _ (too_many flow is fits left) = tt

end_numbered : PagesAreNumbered → (w : Work) (limit passes : ℕ) (flow : Flow) (pages : List Page) (table : List Entry) → EndsIn w limit (settled passes flow pages table) → AreNumbered 1 pages
end_numbered law w limit passes flow pages table (k, below, t, o, last) = last_numbered law w limit k t (settled passes flow pages table) last

-- ---- one column

frames_whole : (rules : List PageRule) (names : List (List ℕ)) (grid : ColumnGrid) → grid.columns ≡ 1 → page_frames rules names grid ≡ whole_frames rules names
frames_whole rules names grid one = one_column (whole_frames rules names).frame_of (whole_widths rules names) grid.columns (gap_units grid) one

pub is_the_page : OneIsAPage → PagesAreNumbered → OneColumnIsThePage
is_the_page law numbered d b one is = record {
  frames = ap (λ (w : Work). w.frames) is.of.is ∙ frames_whole is.rules is.names d.grid one;
  pages = ap (λ n. fold_of n is.frames) one ∙ law is.frames (end_numbered numbered is.work d.passes b.passes is.flow is.frames is.table is.settles);
}

work_is : (d : Document) (gap : ℕ) (rules : List PageRule) (names : List (List ℕ)) (w : Work) → d.grid.columns ≡ 1 → IsWorkOf (with_gap gap d) rules names w → IsWorkOf d rules names w
work_is d gap rules names w one of =
    let frames : page_frames rules names (with_gap gap d).grid ≡ page_frames rules names d.grid = frames_whole rules names (with_gap gap d).grid one ∙ sym (frames_whole rules names d.grid one) in
    let same : ◌≡◌ {A = Work} (work_by (with_gap gap d) rules names of.rows of.targets) (work_by d rules names of.rows of.targets) = λ i. record {
      nodes = d.nodes;
      rows = of.rows;
      values = values_of d.nodes of.rows;
      asked = asked_of rules;
      faces = d.faces;
      points = d.points;
      frames = frames i;
      per = d.grid.columns;
      targets = of.targets;
    } in
    record {
      by = of.by;
      rows = of.rows;
      styles = record { sheets = of.styles.sheets; read = of.styles.read; styles = of.styles.styles };
      targets = of.targets;
      are = of.are;
      is = of.is ∙ same;
    }

book_is : (d : Document) (gap : ℕ) (b : Book) → d.grid.columns ≡ 1 → IsBookOf (with_gap gap d) b → IsBookOf d b
book_is d gap b one is = record {
  rules = is.rules;
  names = is.names;
  work = is.work;
  of = work_is d gap is.rules is.names is.work one is.of;
  flow = is.flow;
  frames = is.frames;
  table = is.table;
  settles = is.settles;
  count = is.count;
  put = is.put;
}

pub has_no_gap : HasOneBook → OneColumnHasNoGap
has_no_gap books d gap b c one tree x y = books d b c tree x (book_is d gap c one y)
