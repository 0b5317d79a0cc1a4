-- The book of a document: its pages, and the bytes that are put of it.
use Rattle.std.specs.Prelude.{◌≡◌, ℕ, List, Some, length}
use Rattle.boxes.specs.declared.flow.Flow.{Flow}
use Rattle.boxes.specs.declared.page.Page.{Page}
use Rattle.css_page.specs.declared.rules.PageRule.{PageRule}
use Rattle.gen_text.specs.declared.table.Entry.{Entry}
use Rattle.metrics.specs.Face.{FontFace}
use Rattle.page_ctx.specs.Margins.{margin_style}
use Rattle.page_ctx.specs.Selectors.{classes_of}
use Rattle.page_ctx.specs.Tables.{page_cell, text_of}
use Rattle.page_seq.specs.Folds.{fold_of}
use Rattle.passes.specs.Passes.{EndsIn, settled}
use Rattle.passes.specs.Work.{Work}
use Rattle.book.specs.Counts.{counts_line, lines_of}
use Rattle.book.specs.Document.{Document}
use Rattle.book.specs.Flow.{IsWorkOf}
use Rattle.book.specs.declared.document.Output.{Output}
use Rattle.book.specs.declared.document.Output.TheVariants as output
use Rattle.listing.specs.Printed.{Print, listing_of}

-- what is printed of a flow that settled in so many passes, with these frames, so many on a page: each page has the
-- page box and the margin boxes that its winning page declarations give (css-page-3, 4 to 7)
abbrev pub print_of : List FontFace → List PageRule → List (List ℕ) → ℕ → ℕ → Flow → List Page → Print
print_of faces rules names per passes flow frames = record {
  passes = passes;
  faces = faces;
  flow = flow;
  frames = frames;
  per = per;
  names = names;
  cell = λ index name kind. Some (page_cell rules (text_of names name) (classes_of index kind));
  style = λ index name kind place. margin_style rules (text_of names name) (classes_of index kind) place;
}

-- what is put of a book: its listing, or a line with its counts
abbrev pub output_of : Output → Print → List Page → List Entry → List ℕ
output_of output.Listing print pages table = listing_of print pages
output_of (output.Counts chapters) print pages table =
    counts_line chapters (length pages) (lines_of pages) (length print.flow.notes) (length table) print.passes

-- a book, by the number of its pages, that of the passes in which it settled, and the bytes that are put of it
pub record Book : Type 0 where
  pub pages : ℕ
  pub passes : ℕ
  pub bytes : List ℕ

-- the book of a document: the passes over it settle, in so many, with a flow whose page references print the numbers of
-- the very pages on which they lead, its one list of frames, and their table; its pages are those on which the frames
-- stand, and its bytes are what is put of these pages
pub record IsBookOf (d : Document) (b : Book) : Type 0 where
  pub rules : List PageRule
  pub names : List (List ℕ)
  pub work : Work
  pub of : IsWorkOf d rules names work
  pub flow : Flow
  pub frames : List Page
  pub table : List Entry
  pub settles : EndsIn work d.passes (settled b.passes flow frames table)
  pub count : b.pages ≡ length (fold_of d.grid.columns frames)
  pub put : b.bytes ≡ output_of d.output (print_of d.faces rules names d.grid.columns b.passes flow frames)
      (fold_of d.grid.columns frames) table
