-- What is read of a page before it is cut: its solids, and the notes that are called in them.
use Rattle.std.specs.Prelude.{◌≡◌, ◌+◌, ℕ, zero, suc, ℤ, ◌<◌, ◌≤◌, ◌≤ℤ◌, ◌<ℤ◌, ◌⊎◌, List, [], ◌++◌, Option, None, Some, Bool, is_some, length, map, slice_get, take, if◌then◌else◌}
use Rattle.std.specs.List.{All, prefix_len}
use Rattle.metrics.specs.Face.{FontFace}
use Rattle.boxes.specs.Tree.{Tree}
use Rattle.boxes.specs.declared.flow.Flow.{Flow}
use Rattle.boxes.specs.declared.flow.Note.{Note}
use Rattle.boxes.specs.declared.frames.Frame.{Frame}
use Rattle.boxes.specs.declared.place.Position.{Position}
use Rattle.seams.specs.Runs.{solid_after}
use Rattle.cursor.specs.Remainder.{SolidView, IsRemainder}
use Rattle.cuts.specs.Areas.{AreAreas, IsArea, Tells, area_after}
use Rattle.cuts.specs.Cuts.{NoteLists, AreLonger}
use Rattle.cuts.specs.Prefixes.{Decides}
use Rattle.cuts.specs.Rows.{limit_of, rows_extent}
use Rattle.notes.specs.Notes.{IsCarryCount, area_of, must_of}
use Rattle.page_seq.specs.Places.{anchor_of, is_before}
use Rattle.line_fill.specs.Kept.{Asked}
use Rattle.line_fill.specs.declared.kept.KeptLeaf.{KeptLeaf}
use Rattle.note_list.specs.Calls.{called_before}
use Rattle.note_list.specs.Known.{AreKnown, new_in, new_noted}
use Rattle.note_list.specs.Lists.{AreNoted, NotePart, called_parts, carried_parts, note_rows}
use Rattle.note_list.specs.Reads.{EndInNotes, IsReadOf, IsReady}
use Rattle.note_list.specs.declared.carried.Carried.{Carried}
use Rattle.note_list.specs.declared.solid.NotedSolid.{NotedSolid}
use Rattle.page_list.specs.Cuts.{rows_of}
use Rattle.page_list.specs.declared.cut.CutFrom.{CutFrom}
use Rattle.fragment.specs.declared.page_notes.PageNotes.{PageNotes}

-- how many notes are called where a page ends with a solid, by the place where that solid ends: all where no solid
-- follows
abbrev pub called_by : Tree → List Note → Position → ℕ
called_by t notes end =
    if is_some (solid_after t end.event) then prefix_len (λ n.
    is_before (anchor_of t n.call) end) notes else length notes

-- the same after the last one of some solids, and so many before any
abbrev pub called_or : Tree → List Note → ℕ → Option Position → ℕ
called_or t notes from None = from
called_or t notes from (Some end) = called_by t notes end

-- where the last one of the first j solids ends, of which some end at places
abbrev pub end_after : List Position → ℕ → Option Position
end_after ends zero = None
end_after ends (suc j) = slice_get ends j

-- how many notes are called before the place where a page of a flow begins and in its first j solids
abbrev pub called_in : Flow → Position → List Position → ℕ → ℕ
called_in flow at ends j = called_or flow.main flow.notes (called_before flow.main flow.notes at) (end_after ends j)

-- the notes of a page up to a number: those that are carried to it, and those that are called on it
abbrev pub parts_to : Flow → Position → List Carried → ℕ → List NotePart
parts_to flow at carried to = carried_parts carried ++ called_parts (called_before flow.main flow.notes at) to

-- the notes of a page that are read with solids that end at some places
pub record AreRead (faces : List FontFace) (flow : Flow) (frame : Frame) (at : Position) (carried : List Carried)
    (ends : List Position)
    (p : PageNotes) : Type 0 where
  pub ready : IsReady p.list
  pub held : EndInNotes flow.notes p.list
  pub own : List NotedSolid
  pub owned : AreNoted faces flow.notes frame.width (carried_parts carried) own
  pub carries : IsCarryCount (note_rows own) (length own) frame.height p.list.own
  pub low : called_before flow.main flow.notes at ≤ p.called
  pub called : p.called ≡ called_in flow at ends (length ends)
  pub list : List NotedSolid
  pub listed : AreNoted faces flow.notes frame.width (parts_to flow at carried p.called) list
  pub read : IsReadOf frame.height list p.list
  pub count : length p.areas.items ≡ length ends
  pub small : All IsArea p.areas.items
  pub told : (j : ℕ) → j < length ends → (notes : List NotedSolid) →
      AreNoted faces flow.notes frame.width (parts_to flow at carried (called_in flow at ends (suc j))) notes →
      Tells frame.height (area_after p.areas.items (suc j))
      (area_of (note_rows notes) (must_of (note_rows notes) p.list.own))

-- the notes of a page are read with the first of its solids, those that end inside the frame up to the first forced
-- seam
pub record AreReadInside (faces : List FontFace) (flow : Flow) (frame : Frame) (from : CutFrom) (carried : List Carried)
    (solids : List SolidView) (p : PageNotes) : Type 0 where
  pub count : ℕ
  pub within : count ≤ limit_of (rows_of flow.main solids)
  pub read : AreRead faces flow frame from.at carried (map (λ s. s.end) (take count solids)) p
  pub inside : rows_extent from.kept (rows_of flow.main solids) count ≤ℤ frame.height
  pub below : count < limit_of (rows_of flow.main solids) →
      frame.height <ℤ rows_extent from.kept (rows_of flow.main solids) (suc count)

-- a prefix of the solids that are left, which tells the cut of a page of a frame, with whatever notes those areas tell
pub record IsPagePrefix (faces : List FontFace) (t : Tree) (frame : Frame) (from : Position) (kept : Bool) (c : ℕ)
    (areas : List ℤ)
    (carried : ℤ) (prefix : List SolidView) : Type 0 where
  pub rest : List SolidView
  pub are : IsRemainder faces t frame.width from (prefix ++ rest)
  pub some : (rest ≡ []) ⊎ (0 < length prefix)
  pub decides : (list : NoteLists) → AreLonger list → c ≤ length (list 0) →
      AreAreas kept (rows_of t prefix) frame.height list c areas carried →
      Decides kept frame.height list c (rows_of t prefix) (rows_of t rest)

-- steps are taken alone for lines of solids of a page, and of notes with which a list is read on, that aren't known
abbrev pub StepsForPage : Flow → ℤ → List KeptLeaf → List SolidView → List NotedSolid → List NotedSolid → ℕ → ℕ → Type 0
StepsForPage flow width kept solids old new steps steps' = (known : Asked → Bool) → AreKnown known kept →
    steps' + new_noted known flow.notes width old
    ≤ (steps + new_in known flow.main width solids) + new_noted known flow.notes width new
