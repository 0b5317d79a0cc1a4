-- What a book keeps of its document: the promise of this program, clause by clause.
use Rattle.std.specs.Prelude.{◌≡◌, ℕ, List, Some, slice_get}
use Rattle.std.specs.List.{All, flat_map}
use Rattle.boxes.specs.declared.flow.Flow.{Flow}
use Rattle.boxes.specs.declared.flow.Note.{Note}
use Rattle.boxes.specs.declared.page.Page.{Page}
use Rattle.box_gen.specs.Notes.{AreNotesOf}
use Rattle.gen_text.specs.declared.table.Entry.{Entry}
use Rattle.page_list.specs.Inside.{EndInside}
use Rattle.page_list.specs.Laws.{HoldsMain}
use Rattle.page_list.specs.Noted.{BeginInTime, HoldsNotes}
use Rattle.page_list.specs.Pages.{IsPaged}
use Rattle.page_list.specs.Parted.{HoldsBreaks}
use Rattle.page_seq.specs.FoldLaws.{KeepsAll}
use Rattle.page_seq.specs.Folds.{fold_of}
use Rattle.paint.specs.Printed.{PrintsItsText, PrintsMainText, leaf_text, note_text}
use Rattle.passes.specs.Work.{IsFlowUnder, Work, source_for}
use Rattle.refs.specs.Tables.{table_of}
use Rattle.book.specs.Answer.{Book, IsBookOf}
use Rattle.book.specs.Document.{Document}

-- over all pages the text of each note's solids is that of the leaves of its body, once and in order, each leaf's
-- markers before it
abbrev pub HoldsNoteTexts : Flow → List Page → Type 0
HoldsNoteTexts flow pages = (k : ℕ) (note : Note) → slice_get flow.notes k ≡ Some note →
    flat_map (λ p. note_text flow.notes p.notes k) pages ≡ flat_map leaf_text note.body.leaves

-- what a book's frames, and the pages on which they stand, keep of the document: its text, its notes and its references
pub record Keeps (w : Work) (flow : Flow) (frames : List Page) (table : List Entry) : Type 0 where
  -- each edge and each character of the main text stands in the frames once and in order
  pub main : HoldsMain flow frames
  -- so does each note, whole and in the order of calls
  pub notes : HoldsNotes flow frames
  -- each forced break stands between two frames, of which the later one is what is asked: a column, the first of a
  -- page, or of a page of a side
  pub breaks : HoldsBreaks flow.main w.frames frames
  -- each other frame ends at the last fitting break of the least dropped level: they are the one list of the flow
  pub paged : IsPaged w.faces flow w.frames frames
  -- where no frame has to overflow, what stands in it ends inside it and above its notes
  pub inside : EndInside frames
  -- no note begins in a frame before its call's
  pub begins : BeginInTime flow frames
  -- the pages hold what their frames do, in order, and are as many as these over the columns, rounded up
  pub pages : KeepsAll w.per frames
  -- each frame prints the text of its lines and of no other, and over all frames the text of the main tree's leaves is
  -- printed once and in order, each leaf's markers before it
  pub texts : All (PrintsItsText w.faces flow) frames
  pub text : PrintsMainText w.faces flow frames
  -- the text that frames have of a note is that of its body's leaves, once and in order over all frames
  pub noted : HoldsNoteTexts flow frames
  -- the texts of the flow print the numbers of a table
  pub printed : IsFlowUnder w table flow
  -- the notes of the flow are those of the note elements that are shown, one each, in tree order
  pub elements : AreNotesOf (source_for w table) flow.notes
  -- the table is the one that these very pages show
  pub shown : table ≡ table_of flow (fold_of w.per frames) w.targets

-- the book of a document, which keeps all of this
abbrev pub IsWholeBook : Document → Book → Type 0
IsWholeBook d b = (is : IsBookOf d b) × Keeps is.work is.flow is.frames is.table
