-- The cut of a page with its notes (css-break-3, 4.4 and 5.4; css-gcpm-3, 2).
use Rattle.std.specs.Prelude.{◌≡◌, ℕ, ℤ, pos, ◌≤◌, ◌+ℤ◌, ◌-ℤ◌, ◌==◌, List, [], ◌∷◌, ◌++◌, Option, Some, None, Bool, length, map, take, drop, slice_get}
use Rattle.metrics.specs.Face.{FontFace}
use Rattle.boxes.specs.Tree.{Tree}
use Rattle.boxes.specs.declared.flow.Flow.{Flow}
use Rattle.boxes.specs.declared.frames.Frame.{Frame}
use Rattle.boxes.specs.declared.frames.Demand.{Demand}
use Rattle.boxes.specs.declared.page.Placed.{Placed}
use Rattle.boxes.specs.declared.place.Position.{Position}
use Rattle.seams.specs.Levels.{block_at, widows_in, orphans_in}
use Rattle.cursor.specs.Remainder.{SolidView, IsRemainder}
use Rattle.cuts.specs.declared.row.SolidRow.{SolidRow}
use Rattle.cuts.specs.Cuts.{NoteLists, IsCut, Fits, FitsLoosely}
use Rattle.cuts.specs.Rows.{IsPoint, rows_reach, seam_top}
use Rattle.bk_num.specs.Limits.{separator}
use Rattle.notes.specs.Notes.{IsCarryCount, IsPlaced, must_of}
use Rattle.note_list.specs.Calls.{called_before}
use Rattle.note_list.specs.Lists.{NotePart, AreNoted, carried_parts, called_parts, placed_notes, left_of, note_rows}
use Rattle.note_list.specs.Places.{least_of}
use Rattle.note_list.specs.declared.carried.Carried.{Carried}
use Rattle.note_list.specs.declared.solid.NotedSolid.{NotedSolid}
use Rattle.page_list.specs.declared.cut.Cut.{Cut}
use Rattle.page_list.specs.declared.cut.CutFrom.{CutFrom}

-- what a cut reads of a solid: its seam, its height, and how many lines its block keeps together
abbrev pub row_of : Tree → SolidView → SolidRow
row_of t s = record {
  seam = s.seam;
  height = s.height;
  widows = widows_in (block_at t s.placed_at.event);
  orphans = orphans_in (block_at t s.placed_at.event);
}

-- what a cut reads of some solids
abbrev pub rows_of : Tree → List SolidView → List SolidRow
rows_of t solids = map (row_of t) solids

-- the gap above the first of a page's solids: what stands again there, and the kept gap after a forced break and at
-- the flow's start
abbrev pub first_gap : Bool → List SolidView → ℤ
first_gap kept [] = pos 0
first_gap kept (s ∷ solids) = seam_top kept s.seam

-- a solid on its page, at a top
abbrev pub placed_at : ℤ → SolidView → Placed
placed_at top s = record { at = s.placed_at; end = s.end; top = top; height = s.height; kind = s.kind }

-- the solids after a bottom, each with its whole gap above it
abbrev pub placed_below : ℤ → List SolidView → List Placed
placed_below bottom [] = []
placed_below bottom (s ∷ solids) =
    placed_at (bottom +ℤ s.seam.whole_gap) s ∷ placed_below ((bottom +ℤ s.seam.whole_gap) +ℤ s.height) solids

-- the solids of a page with their tops, where a gap stands above the first
abbrev pub placed_from : ℤ → List SolidView → List Placed
placed_from first [] = []
placed_from first (s ∷ solids) = placed_at first s ∷ placed_below (first +ℤ s.height) solids

-- where a page that is cut after j solids leaves off: at the next solid, else at the tree's end
abbrev pub place_after : Tree → Option SolidView → Position
place_after t None = record { event = length t.events; offset = 0 }
place_after t (Some s) = s.placed_at

-- the demand of the seam at a cut
abbrev pub forced_after : Option SolidView → Option Demand
forced_after None = None
forced_after (Some s) = s.seam.forced

-- the notes of a page that ends after j of the solids that are left from a place on: those that are carried to it, then
-- those that are called in these j solids
abbrev pub parts_after : Flow → Position → List Carried → List SolidView → ℕ → List NotePart
parts_after flow at carried solids j = carried_parts carried ++
    called_parts (called_before flow.main flow.notes at)
    (called_before flow.main flow.notes (place_after flow.main (slice_get solids j)))

-- the points of a page: those of its rows, and where no solid is left the end alone
abbrev pub IsPagePoint : List SolidRow → ℕ → ℕ → Type 0
IsPagePoint [] level j = (level ≡ 0) × (j ≡ 0)
IsPagePoint (r ∷ rows) level j = IsPoint (r ∷ rows) level j

-- the best cut of a page: after j solids, at a level, where `c` of its carried note solids have to stand on it
abbrev pub IsBestCut : Bool → List SolidRow → ℤ → NoteLists → ℕ → ℕ → ℕ → Type 0
IsBestCut kept rows height list c level j =
    IsCut (IsPagePoint rows) (Fits kept rows height list c) (FitsLoosely kept rows height list c) level j

-- a page's cut: after `count` of the solids that are left, with `number` solids of its list placed, the greatest number
-- that fits below these and what stands again behind them
pub record IsFlowCut (faces : List FontFace) (flow : Flow) (frame : Frame) (from : CutFrom) (carried : List Carried)
    (cut : Cut) : Type 0 where
  pub solids : List SolidView
  pub rest : IsRemainder faces flow.main frame.width from.at solids
  pub list : ℕ → List NotedSolid
  pub listed : (j : ℕ) → j ≤ length solids →
      AreNoted faces flow.notes frame.width (parts_after flow from.at carried solids j) (list j)
  pub own : List NotedSolid
  pub owned : AreNoted faces flow.notes frame.width (carried_parts carried) own
  pub c : ℕ
  pub carries : IsCarryCount (note_rows own) (length own) frame.height c
  pub count : ℕ
  pub within : count ≤ length solids
  pub best : IsBestCut from.kept (rows_of flow.main solids) frame.height (λ j. note_rows (list j)) c cut.level count
  pub number : ℕ
  pub places : IsPlaced (note_rows (list count))
      (least_of cut.level (must_of (note_rows (list count)) c) c (length own))
      (frame.height -ℤ rows_reach from.kept (rows_of flow.main solids) count) number
  pub to_is : cut.to ≡ place_after flow.main (slice_get solids count)
  pub ended_is : cut.ended ≡ (count == length solids)
  pub forced_is : cut.forced ≡ forced_after (slice_get solids count)
  pub solids_is : cut.solids ≡ placed_from (first_gap from.kept solids) (take count solids)
  pub notes_is : cut.notes ≡ placed_notes separator (take number (list count))
  pub carried_is : cut.carried ≡ left_of (drop number (list count))

-- what a note page of a frame places of what is carried to it: the greatest number that fits, at least one; and what is
-- left
pub record IsNotesCut (faces : List FontFace) (flow : Flow) (frame : Frame) (carried : List Carried)
    (notes : List (ℕ × Placed))
    (left : List Carried) : Type 0 where
  pub list : List NotedSolid
  pub listed : AreNoted faces flow.notes frame.width (carried_parts carried) list
  pub number : ℕ
  pub places : IsPlaced (note_rows list) 1 frame.height number
  pub notes_is : notes ≡ placed_notes separator (take number list)
  pub left_is : left ≡ left_of (drop number list)
