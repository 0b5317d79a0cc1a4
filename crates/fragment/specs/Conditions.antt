-- What is asked where the solids of a page are read, and where the page is cut.
use Rattle.std.specs.Prelude.{◌≡◌, ℕ, pos, ◌^◌, ◌<◌, ◌≤◌, ◌≤ℤ◌, List, [], length, map}
use Rattle.std.specs.List.{All}
use Rattle.bk_num.specs.Limits.{most_entries}
use Rattle.boxes.specs.Frames.{IsGoodFrame}
use Rattle.boxes.specs.Tree.{Tree, Holds}
use Rattle.boxes.specs.declared.flow.Flow.{Flow}
use Rattle.boxes.specs.declared.frames.Frame.{Frame}
use Rattle.boxes.specs.declared.place.Position.{Position}
use Rattle.cursor.specs.Fields.{solid_view}
use Rattle.cursor.specs.KeptLines.{KeptLinesView}
use Rattle.cursor.specs.Remainder.{IsSmallSolid}
use Rattle.cuts.specs.Areas.{IsArea}
use Rattle.cuts.specs.Rows.{AreForcedBetween}
use Rattle.cuts.specs.declared.row.PageRoom.{PageRoom}
use Rattle.cuts.specs.declared.row.SolidRow.{SolidRow}
use Rattle.cursor.specs.declared.solid.Solid.{Solid}
use Rattle.metrics.specs.Face.{FontFace}
use Rattle.note_list.specs.Conditions.{AreCarried, CanBePaged, IsAtSolid, IsHeld, NotesAscend}
use Rattle.note_list.specs.Kept.{AreFlowLines}
use Rattle.note_list.specs.Reads.{EndInNotes, IsReady}
use Rattle.note_list.specs.declared.carried.Carried.{Carried}
use Rattle.page_list.specs.Cuts.{rows_of}
use Rattle.page_list.specs.declared.cut.CutFrom.{CutFrom}
use Rattle.fragment.specs.Ahead.{IsPageAhead}
use Rattle.fragment.specs.Reads.{AreRead}
use Rattle.fragment.specs.declared.page_notes.PageNotes.{PageNotes}
use Rattle.fragment.specs.declared.ahead.Ahead.{Ahead}

-- one or more solids that are read of a page of a tree, each with its row, whose forced seams stand between blocks
pub record ArePageSolids (t : Tree) (solids : List Solid) (rows : List SolidRow) : Type 0 where
  pub some : 0 < length solids
  pub few : length solids ≤ most_entries
  pub placed : All (λ s. Holds t s.placed_at) solids
  pub small : All (λ s. IsSmallSolid (solid_view s)) solids
  pub between : AreForcedBetween (rows_of t (map solid_view solids))
  pub rows_are : rows ≡ rows_of t (map solid_view solids)

-- a page of a frame begins at a place of a flow, and what is carried to it goes on at solids
pub record BeginsPage (f : Flow) (at : Position) (parts : List Carried) (page : Frame) : Type 0 where
  pub holds : Holds f.main at
  pub carried : AreCarried f at parts
  pub stands : All (IsAtSolid f.notes) parts
  pub frame : IsGoodFrame page

-- the notes of a page are read, and what is carried to it is of notes below the first that is called on it, in order,
-- and goes on at solids
pub record CanCut (flow : Flow) (parts : List Carried) (from : ℕ) (notes : PageNotes) (room : PageRoom) : Type 0 where
  pub areas : All IsArea notes.areas.items
  pub ready : IsReady notes.list
  pub ends : EndInNotes flow.notes notes.list
  pub carried : All (IsHeld flow.notes) parts
  pub stands : All (IsAtSolid flow.notes) parts
  pub order : NotesAscend parts
  pub before : All (λ c. c.note < from) parts
  pub count : length flow.notes ≤ most_entries
  pub low : pos 0 ≤ℤ room.height
  pub high : room.height ≤ℤ pos (2 ^ 40)

-- a page of a frame begins at a place of a flow, whose lines are kept, with this room, the notes that are carried to it
-- are read, and so are some of its first solids
pub record CanRead (faces : List FontFace) (f : Flow) (from : CutFrom) (page : Frame) (room : PageRoom)
    (notes : PageNotes) (ahead : Ahead) (lines : KeptLinesView) : Type 0
  where
    pub flow : CanBePaged faces f
    pub holds : Holds f.main from.at
    pub frame : IsGoodFrame page
    pub kept : room.kept ≡ from.kept
    pub height : room.height ≡ page.height
    pub carried : IsArea room.carried
    pub lines_are : AreFlowLines faces f lines
    pub ahead_is : IsPageAhead faces f.main page.width lines.kept from.at ahead
    pub read : (parts : List Carried) × AreRead faces f page from.at parts [] notes
