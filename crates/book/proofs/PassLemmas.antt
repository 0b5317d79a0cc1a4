-- How the passes over a document in its styles end is how they end in the frames of its page rules.
use Rattle.std.proofs.Common.{◌≡◌, ◌∙◌, ℕ, List, Option, Err, subst, arith}
use Rattle.std.proofs.lemmas.Int.{ints}
use Rattle.bk_num.specs.declared.ids.NodeId.{NodeId}
use Rattle.gen_text.specs.References.{AreTargets}
use Rattle.boxes.specs.Frames.{PageFrames}
use Rattle.passes.specs.Passes.{End, EndsIn, unsettled, long, many}
use Rattle.passes.specs.Settles.{HasEnd, Settles}
use Rattle.passes.specs.Work.{Work}
use Rattle.passes.specs.declared.settle.Input.{Input}
use Rattle.passes.specs.declared.settle.PassErr.{PassErr}
use Rattle.passes.specs.declared.settle.PassErr.TheVariants as err
use Rattle.columns.specs.Columns.{AreColumns, column_frames}
use Rattle.columns.specs.declared.columns.Columns.{Columns}
use Rattle.page_ctx.specs.declared.resolve.PageStyles.{PageStyles}
use Rattle.soft_hyphens.specs.Words.{Points, points_in}
use Rattle.book.specs.Document.{IsGoodGrid}
use Rattle.book.specs.Flow.{asked_of, gap_units, page_frames}
use Rattle.book.specs.Laid.{AreBoxesOf, AreColumnsOf, EndSo, StopsBy, of_passes, work_in}
use Rattle.book.specs.declared.styled.Styled.{Styled}
use Rattle.book.proofs.Tables.{frames_are}

abbrev pub work_with : Styled → List (List ℕ) → Option Points → List NodeId → PageFrames → ℕ → Work
work_with s asked points targets frames per = record (work_in s targets) { asked = asked; points = points; frames = frames; per = per }

pub in_frames : (s : Styled) (asked : List (List ℕ)) (points : Option Points) (frames : PageFrames) (per : ℕ) (end : End) → asked ≡ asked_of s.rules → points ≡ points_in s.patterns → frames ≡ page_frames s.rules s.names s.grid → per ≡ s.grid.columns → (targets : List NodeId) → AreTargets s.dom s.styles targets → EndsIn (work_with s asked points targets frames per) s.passes end → EndSo s end
in_frames s asked points frames per end names by same count targets are ends = record {
  targets = targets;
  are = are;
  ends = subst (λ (w : Work). EndsIn w s.passes end) (λ i. work_with s (names i) (by i) targets (same i) (count i)) ends;
}

pub stops_by : (s : Styled) (input : Input) (frames : PageFrames) (per : ℕ) → ((end : End) → HasEnd input frames per s.passes end → EndSo s end) → (e : PassErr) → Settles input frames per s.passes (Err e) → StopsBy s (of_passes e)
stops_by s input frames per f (err.NotSettled target before after) h = f (unsettled target before after) h
stops_by s input frames per f err.Text h = f long h
stops_by s input frames per f err.Pages h = f many h
stops_by s input frames per f err.NoMemory h = tt

-- columns of a table's frames are those that the page rules give
pub grid_columns : (s : Styled) (styles : PageStyles) → IsGoodGrid s.grid → AreBoxesOf s styles → AreColumns styles.table.rows s.grid.columns (gap_units s.grid)
grid_columns s styles grid boxes =
    let most = grid.gap in
    record {
      table = boxes.good;
      near = boxes.near;
      per = grid.per;
      gap_low = omega (arith, ints);
      gap_high = omega (arith, ints);
    }

pub are_of : (s : Styled) (styles : PageStyles) (c : Columns) → AreBoxesOf s styles → c.pages.table.rows ≡ styles.table.rows → c.count ≡ s.grid.columns → c.gap ≡ gap_units s.grid → AreColumnsOf s c
are_of s styles c boxes rows count gap = record {
  frames = (λ i. column_frames (rows i) (count i) (gap i)) ∙ frames_are s.rules s.names s.grid styles.table.rows boxes.table;
  per = count;
}
