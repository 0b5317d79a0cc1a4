-- A book keeps what the laws of page lists promise.
use Rattle.std.proofs.Common.{ℕ, List, get_or, sym, subst}
use Rattle.boxes.specs.Frames.{HaveWidths, IsPerPage}
use Rattle.boxes.specs.declared.flow.Flow.{Flow}
use Rattle.boxes.specs.declared.page.Page.{Page}
use Rattle.box_gen.proofs.NoteSums.{notes-are}
use Rattle.box_gen.specs.Notes.{AreNotesOf}
use Rattle.gen_text.specs.declared.table.Entry.{Entry}
use Rattle.note_list.specs.Conditions.{CanBePaged}
use Rattle.book.proofs.NoteLemmas.{note-texts}
use Rattle.book.proofs.TextLemmas.{prints_main}
use Rattle.paint.proofs.PrintLemmas.{pages-print-their-text}
use Rattle.passes.specs.Passes.{End, EndsIn, IsLast, settled, unsettled, long, many, settles, differs, too_long, too_many}
use Rattle.passes.specs.Work.{IsFlowUnder, Work, source_for}
use Rattle.book.specs.Keeps.{Keeps}
use Rattle.book.specs.Laws.{PageLaws}

abbrev KeepsEnd : Work → End → Type 0
KeepsEnd w (settled passes flow pages table) = CanBePaged w.faces flow → Keeps w flow pages table
KeepsEnd w (unsettled target before after) = Unit {0}
KeepsEnd w long = Unit {0}
KeepsEnd w many = Unit {0}

-- the notes of a flow are those of the note elements
of-elements : (w : Work) (table : List Entry) (flow : Flow) → IsFlowUnder w table flow → AreNotesOf (source_for w table) flow.notes
of-elements w table flow is = subst (λ (f : Flow). AreNotesOf (source_for w table) f.notes) (sym is.is) (notes-are (source_for w table))

last_keeps : PageLaws → (w : Work) → HaveWidths w.frames → IsPerPage w.per → (limit k : ℕ) (table : List Entry) (end : End) → IsLast w limit k table end → KeepsEnd w end
last_keeps laws w wide per limit k table _ (settles flow pages pass) = λ can. record {
  main = laws.main w.faces flow w.frames pages can pass.paged;
  notes = laws.notes w.faces flow w.frames pages can pass.paged;
  breaks = laws.breaks w.faces flow w.frames pages can pass.paged;
  paged = pass.paged;
  inside = laws.inside w.faces flow w.frames pages wide can pass.paged;
  pages = laws.folds w.per pages per;
  begins = laws.begins w.faces flow w.frames pages can pass.paged;
  texts = λ k d low. pages-print-their-text w.faces flow (get_or pages k d) (record { main = can.main.is; notes = λ n e less. (can.notes n e less).is });
  text = prints_main w.faces flow pages can.main.is (laws.main w.faces flow w.frames pages can pass.paged).all;
  noted = note-texts flow pages (λ n e less. (can.notes n e less).is) (laws.notes w.faces flow w.frames pages can pass.paged);
  printed = pass.flow_is;
  elements = of-elements w table flow pass.flow_is;
  shown = pass.shown;
}
last_keeps laws w wide per limit k table _ (differs a b u n s place d x y) = tt
last_keeps laws w wide per limit k table _ (too_long flow is much) = tt
last_keeps laws w wide per limit k table _ (too_many flow is fits left) = tt

pub keeps : PageLaws → (w : Work) → HaveWidths w.frames → IsPerPage w.per → (limit passes : ℕ) (flow : Flow) (pages : List Page) (table : List Entry) → CanBePaged w.faces flow → EndsIn w limit (settled passes flow pages table) → Keeps w flow pages table
keeps laws w wide per limit passes flow pages table can (k, below, t, o, last) = last_keeps laws w wide per limit k t (settled passes flow pages table) last can
