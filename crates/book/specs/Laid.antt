-- What is laid out of a document, as the arguments have it.
use Rattle.std.specs.Prelude.{◌≡◌, ℕ, ◌≤◌, List, Option, Result, Ok, Err, length, take}
use Rattle.std.specs.List.{All}
use Rattle.std.specs.Io.KnownBytes.{Appends, Keeps}
use Rattle.bk_num.specs.Limits.{most_pages}
use Rattle.bk_num.specs.declared.ids.NodeId.{NodeId}
use Rattle.bk_num.specs.declared.values.Pseudo.{Pseudo}
use Rattle.boxes.specs.declared.flow.Flow.{Flow}
use Rattle.boxes.specs.declared.page.Page.{Page}
use Rattle.boxes.specs.declared.page.PageList.{PageList}
use Rattle.columns.specs.Columns.{IsNearFrame, column_frames}
use Rattle.columns.specs.declared.columns.Columns.{Columns}
use Rattle.box_gen.specs.Sources.{AreInRange, IsRootShown}
use Rattle.counters.specs.At.{counter_values}
use Rattle.counters.specs.Document.{values_of}
use Rattle.gen_text.specs.References.{AreTargets}
use Rattle.note_list.specs.Conditions.{CanBePaged}
use Rattle.gen_text.specs.declared.table.Entry.{Entry}
use Rattle.page_ctx.specs.Margins.{AreMarginStyles}
use Rattle.page_ctx.specs.Tables.{IsTable}
use Rattle.page_ctx.specs.declared.resolve.PageStyles.{PageStyles}
use Rattle.page_seq.specs.Folds.{fold_of}
use Rattle.page_seq.specs.Frames.{HasCells, IsGoodTable}
use Rattle.paint.specs.Order.{IsPageOf}
use Rattle.passes.specs.Conditions.{IsGoodFlow}
use Rattle.passes.specs.Passes.{End, EndsIn, settled, unsettled, long, many}
use Rattle.passes.specs.Work.{Work}
use Rattle.passes.specs.declared.settle.Settled.{Settled}
use Rattle.soft_hyphens.specs.Words.{points_in}
use Rattle.passes.specs.declared.settle.PassErr.{PassErr}
use Rattle.passes.specs.declared.settle.PassErr.TheVariants as err
use Rattle.book.specs.Answer.{Book, output_of, print_of}
use Rattle.book.specs.Document.{Document, IsGoodGrid}
use Rattle.book.specs.Flow.{AreRulesOf, AreStylesBy, asked_of, page_frames}
use Rattle.book.specs.declared.lay_out.Done.{Done}
use Rattle.book.specs.declared.outcome.LimitOf.TheVariants as limit
use Rattle.book.specs.declared.outcome.Outcome.{Outcome}
use Rattle.book.specs.declared.outcome.Outcome.TheVariants as out
use Rattle.book.specs.declared.styled.Styled.{Styled}
use Rattle.listing.specs.Printed.{Print, listing_of}
use Rattle.listing.specs.declared.print.PrintErr.{PrintErr}
use Rattle.listing.specs.declared.print.PrintErr.TheVariants as print

-- the styles of nodes are in range, and the root is shown
pub record AreGoodStyles (s : Styled) : Type 0 where
  pub ranges : AreInRange s.styles
  pub shown : IsRootShown s.styles

-- a document in its styles, with its counters and its page rules
pub record IsStyledOf (d : Document) (s : Styled) : Type 0 where
  pub passes : s.passes ≡ d.passes
  pub grid : s.grid ≡ d.grid
  pub output : s.output ≡ d.output
  pub nodes : s.dom ≡ d.nodes
  pub faces : s.faces ≡ d.faces
  pub points : points_in s.patterns ≡ d.points
  pub styles : AreStylesBy d s.names s.styles
  pub values : (n : ℕ) (p : Pseudo) (x : List ℕ) → counter_values s.counters n p x ≡ values_of d.nodes s.styles n p x
  pub rules : AreRulesOf d s.rules

-- page boxes and margin boxes are those that the page rules of a document give
pub record AreBoxesOf (s : Styled) (styles : PageStyles) : Type 0 where
  pub table : IsTable s.rules s.names styles.table.rows
  pub good : IsGoodTable styles.table.rows
  pub near : All (HasCells IsNearFrame) styles.table.rows
  pub boxes : AreMarginStyles s.rules s.names styles.boxes

-- columns are those of the frames that the page rules of a document give
pub record AreColumnsOf (s : Styled) (c : Columns) : Type 0 where
  pub frames : column_frames c.pages.table.rows c.count c.gap ≡ page_frames s.rules s.names s.grid
  pub per : c.count ≡ s.grid.columns

-- pages of frames that settled can be put: their flow can be paged, in page boxes that are the document's, the frames
-- are those of pages of it, and the pages are those on which they stand, which are few
pub record CanPut (s : Styled) (given : PageStyles) (laid : Settled) (list : PageList) : Type 0 where
  pub good : IsGoodFlow s.faces laid.flow
  pub boxes : AreBoxesOf s given
  pub frames : All (IsPageOf laid.flow) laid.pages.pages
  pub grid : IsGoodGrid s.grid
  pub pages : list.pages ≡ fold_of s.grid.columns laid.pages.pages
  pub few : length list.pages ≤ most_pages

-- what a listing of pages of frames that settled is made of
abbrev pub print_by : Styled → Settled → Print
print_by s laid = print_of s.faces s.rules s.names s.grid.columns laid.passes laid.flow laid.pages.pages

-- their listing
abbrev pub listing_by : Styled → Settled → PageList → List ℕ
listing_by s laid pages = listing_of (print_by s laid) pages.pages

-- what is put of them
abbrev pub output_by : Styled → Settled → PageList → List ℕ
output_by s laid pages = output_of s.output (print_by s laid) pages.pages laid.table

-- what the passes over a document in its styles read
abbrev pub work_in : Styled → List NodeId → Work
work_in s targets = record {
  nodes = s.dom;
  rows = s.styles;
  values = counter_values s.counters;
  asked = asked_of s.rules;
  faces = s.faces;
  points = points_in s.patterns;
  frames = page_frames s.rules s.names s.grid;
  per = s.grid.columns;
  targets = targets;
}

-- how they end, of which there are at most so many
pub record EndSo (s : Styled) (end : End) : Type 0 where
  pub targets : List NodeId
  pub are : AreTargets s.dom s.styles targets
  pub ends : EndsIn (work_in s targets) s.passes end

-- how passes that don't settle are answered
abbrev pub of_passes : PassErr → Outcome
of_passes (err.NotSettled target before after) = out.NotSettled target before after
of_passes err.Text = out.Limit limit.Text
of_passes err.Pages = out.Limit limit.Pages
of_passes err.NoMemory = out.NoMemory

-- the answer of passes that don't settle
abbrev pub StopsBy : Styled → Outcome → Type 0
StopsBy s (out.NotSettled target before after) = EndSo s (unsettled target before after)
StopsBy s (out.Limit limit.Text) = EndSo s long
StopsBy s (out.Limit limit.Pages) = EndSo s many
StopsBy s out.NoMemory = Unit {0}
StopsBy s o = ⊥

-- a book is what the passes settle with, which can be paged, and what is put of it
pub record IsBookBy (s : Styled) (b : Book) : Type 0 where
  pub flow : Flow
  pub frames : List Page
  pub table : List Entry
  pub settles : EndSo s (settled b.passes flow frames table)
  pub can : CanBePaged s.faces flow
  pub count : b.pages ≡ length (fold_of s.grid.columns frames)
  pub put : b.bytes ≡ output_of s.output (print_of s.faces s.rules s.names s.grid.columns b.passes flow frames)
      (fold_of s.grid.columns frames) table

-- how a print that put only a prefix, or nothing for want of memory, is answered
abbrev pub of_print : PrintErr → Outcome
of_print print.Failed = out.WriteFault
of_print print.NoMemory = out.NoMemory

-- what a run answers that laid a document out, or stopped
abbrev pub outcome_of : Result Done Outcome → Outcome
outcome_of (Ok done) = out.Done done.pages done.passes
outcome_of (Err o) = o

-- what a run over a document in its styles answers, by the bytes taken: Done put its book, a write fault a prefix of
-- it, and no other answer anything
abbrev pub WritesBy : Styled → Option (List ℕ) → Option (List ℕ) → Outcome → Type 0
WritesBy s old new (out.Done pages passes) =
    (b : Book) × IsBookBy s b × (pages ≡ b.pages) × (passes ≡ b.passes) × Appends old new b.bytes
WritesBy s old new out.WriteFault = (b : Book) × IsBookBy s b × ((n : ℕ) × Appends old new (take n b.bytes))
WritesBy s old new o = StopsBy s o × Keeps old new
