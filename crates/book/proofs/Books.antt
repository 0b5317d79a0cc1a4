-- What the passes over a document in its styles settle with is of the document.
use Rattle.std.proofs.Common.{◌≡◌, ◌∙◌, ℕ, ℤ, List, Option, Err, length, refl, sym, ap, subst}
use Rattle.std.specs.Io.KnownBytes.{Appends}
use Rattle.bk_num.specs.declared.ids.NodeId.{NodeId}
use Rattle.bk_num.specs.declared.values.Pseudo.{Pseudo}
use Rattle.counters.specs.At.{counter_values}
use Rattle.counters.specs.Document.{values_of}
use Rattle.dom.specs.Nodes.{Node}
use Rattle.gen_text.specs.References.{AreTargets}
use Rattle.passes.specs.Passes.{End, EndsIn, settled, unsettled, long, many}
use Rattle.passes.specs.Work.{Work}
use Rattle.book.specs.Answer.{Book, IsBookOf, output_of, print_of}
use Rattle.page_seq.specs.Folds.{fold_of}
use Rattle.book.specs.Document.{Document, IsGoodGrid}
use Rattle.book.specs.declared.document.ColumnGrid.{ColumnGrid}
use Rattle.book.specs.Flow.{HasEnd, IsWorkOf, asked_of, page_frames, work_by}
use Rattle.book.specs.Keeps.{IsWholeBook}
use Rattle.book.specs.Laid.{EndSo, IsBookBy, IsStyledOf, StopsBy, WritesBy, of_print, work_in}
use Rattle.book.specs.Run.{IsOfBook, PutsOnlyABook, Writes}
use Rattle.book.specs.declared.outcome.LimitOf.TheVariants as limit
use Rattle.book.specs.Lines.{EndsInFew, FillsFew, TakesFew, TakesFewBy}
use Rattle.book.specs.declared.outcome.Outcome.{Outcome}
use Rattle.book.specs.declared.outcome.Outcome.TheVariants as out
use Rattle.book.specs.declared.styled.Styled.{Styled}
use Rattle.book.specs.Laws.{PageLaws}
use Rattle.book.proofs.KeepLemmas.{keeps}
use Rattle.book.proofs.Stopping.{keeps_same}
use Rattle.book.proofs.Tables.{page_widths}
use Rattle.listing.specs.Puts.{Puts}
use Rattle.listing.specs.declared.print.PrintErr.{PrintErr}
use Rattle.listing.specs.declared.print.PrintErr.TheVariants as print
use Rattle.boxes.specs.declared.flow.Flow.{Flow}
use Rattle.boxes.specs.declared.page.Page.{Page}
use Rattle.gen_text.specs.declared.table.Entry.{Entry}
use Rattle.note_list.specs.Conditions.{CanBePaged}

module _ (d : Document) (s : Styled) (is : IsStyledOf d s) where
  work_is : (targets : List NodeId) → work_in s targets ≡ work_by d s.rules s.names s.styles targets
  work_is targets =
      let values : ◌≡◌ {A = ℕ → Pseudo → List ℕ → List ℤ} (counter_values s.counters) (values_of d.nodes s.styles) = λ i n p x. is.values n p x i in
      λ i. record {
        nodes = is.nodes i;
        rows = s.styles;
        values = values i;
        asked = asked_of s.rules;
        faces = is.faces i;
        points = is.points i;
        frames = page_frames s.rules s.names (is.grid i);
        per = (is.grid i).columns;
        targets = targets;
      }

  work_of : (targets : List NodeId) → AreTargets s.dom s.styles targets → IsWorkOf d s.rules s.names (work_in s targets)
  work_of targets are = record {
    by = is.rules;
    rows = s.styles;
    styles = is.styles;
    targets = targets;
    are = subst (λ (nodes : List Node). AreTargets nodes s.styles targets) is.nodes are;
    is = work_is targets;
  }

  within : (w : Work) (end : End) → EndsIn w s.passes end → EndsIn w d.passes end
  within w end e = subst (λ (n : ℕ). EndsIn w n end) is.passes e

  end_is : (end : End) → EndSo s end → HasEnd d end
  end_is end e = record { rules = s.rules; names = s.names; work = work_in s e.targets; of = work_of e.targets e.are; ends = within (work_in s e.targets) end e.ends }

  put_is : (b : Book) (by : IsBookBy s b) → output_of s.output (print_of s.faces s.rules s.names s.grid.columns b.passes by.flow by.frames) (fold_of s.grid.columns by.frames) by.table ≡ output_of d.output (print_of d.faces s.rules s.names d.grid.columns b.passes by.flow by.frames) (fold_of d.grid.columns by.frames) by.table
  put_is b by = λ i. output_of (is.output i) (print_of (is.faces i) s.rules s.names (is.grid i).columns b.passes by.flow by.frames) (fold_of (is.grid i).columns by.frames) by.table

  put_book : (b : Book) → IsBookBy s b → IsBookOf d b
  put_book b by = record {
    rules = s.rules;
    names = s.names;
    work = work_in s by.settles.targets;
    of = work_of by.settles.targets by.settles.are;
    flow = by.flow;
    frames = by.frames;
    table = by.table;
    settles = within (work_in s by.settles.targets) (settled b.passes by.flow by.frames by.table) by.settles.ends;
    count = by.count ∙ ap (λ (g : ColumnGrid). length (fold_of g.columns by.frames)) is.grid;
    put = by.put ∙ put_is b by;
  }

  pub book_is : PageLaws → IsGoodGrid s.grid → (b : Book) → IsBookBy s b → IsWholeBook d b
  unfolding put_book
  book_is laws good b by = (put_book b by, keeps laws (work_in s by.settles.targets) (page_widths s.rules s.names s.grid) good.per s.passes b.passes by.flow by.frames by.table by.can by.settles.ends)

  pub laid_out : PageLaws → IsGoodGrid s.grid → (old new : Option (List ℕ)) (o : Outcome) → WritesBy s old new o → Writes d old new o × PutsOnlyABook old new o × IsOfBook o
  laid_out laws good old new (out.Done pages passes) (b, by, p, k, a) = ((b, book_is laws good b by, p, k, a), tt, tt)
  laid_out laws good old new out.WriteFault (b, by, n) = ((b, book_is laws good b by, n), tt, tt)
  laid_out laws good old new (out.NotSettled target one other) (h, kept) = (end_is (unsettled target one other) h, kept, tt)
  laid_out laws good old new (out.Limit limit.Text) (h, kept) = (end_is long h, kept, tt)
  laid_out laws good old new (out.Limit limit.Pages) (h, kept) = (end_is many h, kept, tt)
  laid_out laws good old new (out.Limit limit.Nodes) h = absurd h.0
  laid_out laws good old new (out.Limit limit.Depth) h = absurd h.0
  laid_out laws good old new (out.Limit limit.Sheets) h = absurd h.0
  laid_out laws good old new (out.Limit limit.Rules) h = absurd h.0
  laid_out laws good old new out.NoMemory (h, kept) = (tt, kept, tt)
  laid_out laws good old new (out.NotRead k) h = absurd h.0
  laid_out laws good old new (out.ReadFault f) h = absurd h.0
  laid_out laws good old new (out.TooLarge f) h = absurd h.0
  laid_out laws good old new (out.NotUtf8 f at) h = absurd h.0
  laid_out laws good old new (out.BadMetrics line why) h = absurd h.0
  laid_out laws good old new (out.BadPatterns line) h = absurd h.0

  few_is : (passes old new : ℕ) → TakesFewBy s passes old new → TakesFew d passes old new
  few_is passes old new h = record { rules = s.rules; names = s.names; work = work_in s h.targets; of = work_of h.targets h.are; few = h.few }

  pub fills_few : (o : Outcome) (old new : ℕ) → EndsInFew s o old new → FillsFew d o old new
  fills_few (out.Done pages passes) old new h = few_is passes old new h
  fills_few (out.NotSettled target one other) old new h = subst (λ (n : ℕ). TakesFew d n old new) is.passes (few_is s.passes old new h)
  fills_few (out.NotRead k) old new h = tt
  fills_few (out.ReadFault f) old new h = tt
  fills_few (out.TooLarge f) old new h = tt
  fills_few (out.NotUtf8 f at) old new h = tt
  fills_few (out.BadMetrics line why) old new h = tt
  fills_few (out.BadPatterns line) old new h = tt
  fills_few (out.Limit what) old new h = tt
  fills_few out.WriteFault old new h = tt
  fills_few out.NoMemory old new h = tt

-- the columns are those of the document
pub good_grid : (d : Document) (s : Styled) → IsStyledOf d s → IsGoodGrid d.grid → IsGoodGrid s.grid
good_grid d s is good = subst IsGoodGrid (sym is.grid) good

-- an answer that comes before anything is put
pub stops_write : (s : Styled) (old : Option (List ℕ)) (o : Outcome) → StopsBy s o → WritesBy s old old o
stops_write s old (out.NotSettled target one other) h = (h, keeps_same old)
stops_write s old (out.Limit limit.Text) h = (h, keeps_same old)
stops_write s old (out.Limit limit.Pages) h = (h, keeps_same old)
stops_write s old (out.Limit limit.Nodes) h = absurd h
stops_write s old (out.Limit limit.Depth) h = absurd h
stops_write s old (out.Limit limit.Sheets) h = absurd h
stops_write s old (out.Limit limit.Rules) h = absurd h
stops_write s old out.NoMemory h = (tt, keeps_same old)
stops_write s old (out.Done pages passes) h = absurd h
stops_write s old (out.NotRead k) h = absurd h
stops_write s old (out.ReadFault f) h = absurd h
stops_write s old (out.TooLarge f) h = absurd h
stops_write s old (out.NotUtf8 f at) h = absurd h
stops_write s old (out.BadMetrics line why) h = absurd h
stops_write s old (out.BadPatterns line) h = absurd h
stops_write s old out.WriteFault h = absurd h

-- what is put of the pages that settled
module _ (s : Styled) (passes : ℕ) (flow : Flow) (frames : List Page) (table : List Entry) (settles : EndSo s (settled passes flow frames table)) (can : CanBePaged s.faces flow) where
  whole : Book
  whole = record { pages = length (fold_of s.grid.columns frames); passes = passes; bytes = output_of s.output (print_of s.faces s.rules s.names s.grid.columns passes flow frames) (fold_of s.grid.columns frames) table }

  by : IsBookBy s whole
  unfolding whole
  by = record { flow = flow; frames = frames; table = table; settles = settles; can = can; count = refl; put = refl }

  pub put_fails : (pages : List Page) → pages ≡ fold_of s.grid.columns frames → (old new : Option (List ℕ)) (e : PrintErr) → Puts old new (output_of s.output (print_of s.faces s.rules s.names s.grid.columns passes flow frames) pages table) (Err e) → WritesBy s old new (of_print e)
  unfolding whole
  put_fails pages are old new print.Failed h = (whole, by, subst (λ (ps : List Page). Puts old new (output_of s.output (print_of s.faces s.rules s.names s.grid.columns passes flow frames) ps table) (Err print.Failed)) are h)
  put_fails pages are old new print.NoMemory h = (tt, h)

  pub put_done : (pages : List Page) → pages ≡ fold_of s.grid.columns frames → (old new : Option (List ℕ)) (count : ℕ) → count ≡ length pages → Appends old new (output_of s.output (print_of s.faces s.rules s.names s.grid.columns passes flow frames) pages table) → WritesBy s old new (out.Done count passes)
  unfolding whole
  put_done pages are old new count is h = (whole, by, is ∙ ap (λ (ps : List Page). length ps) are, refl, subst (λ (ps : List Page). Appends old new (output_of s.output (print_of s.faces s.rules s.names s.grid.columns passes flow frames) ps table)) are h)

-- want of memory is no write fault
pub no_fault : {R : Type 0} → out.NoMemory ≡ out.WriteFault → R
no_fault e = absurd (cc)
