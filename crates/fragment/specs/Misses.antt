-- That no later point of a page fits once the solids before one have no room, by which reading a page may stop.
use Rattle.std.specs.Prelude.{ℕ, ◌≤◌, List, length}
use Rattle.metrics.specs.Face.{FontFace}
use Rattle.boxes.specs.Frames.{IsGoodFrame}
use Rattle.boxes.specs.Tree.{Holds}
use Rattle.boxes.specs.declared.flow.Flow.{Flow}
use Rattle.boxes.specs.declared.frames.Frame.{Frame}
use Rattle.cursor.specs.Remainder.{SolidView, IsRemainder}
use Rattle.cuts.specs.Cuts.{HasMissedFrom}
use Rattle.note_list.specs.Conditions.{AreCarried, CanBePaged}
use Rattle.note_list.specs.Lists.{AreNoted, carried_parts, note_rows}
use Rattle.note_list.specs.declared.carried.Carried.{Carried}
use Rattle.note_list.specs.declared.solid.NotedSolid.{NotedSolid}
use Rattle.page_list.specs.Cuts.{parts_after, rows_of}
use Rattle.page_list.specs.declared.cut.CutFrom.{CutFrom}

-- of a page of a flow that begins at a place, with `c` of the note solids that are carried to it: where the greatest
-- bottom of the first j of the solids that are left, at least 0, and the area of the notes that have to stand with them
-- are more than the frame's height, no k of them fit, j at most k; and the same with the carried notes alone
abbrev pub NoLaterFits : List FontFace → Flow → Frame → CutFrom → List Carried → Type 0
NoLaterFits faces flow frame from carried =
    (solids : List SolidView) (list : ℕ → List NotedSolid) (own : List NotedSolid) (c j k : ℕ) →
    IsRemainder faces flow.main frame.width from.at solids →
    ((n : ℕ) → n ≤ length solids →
    AreNoted faces flow.notes frame.width (parts_after flow from.at carried solids n) (list n)) →
    AreNoted faces flow.notes frame.width (carried_parts carried) own → c ≤ length own → j ≤ k → k ≤ length solids →
    HasMissedFrom from.kept (rows_of flow.main solids) frame.height (λ n. note_rows (list n)) c j k

-- on no page of a flow, whatever good frame it has, wherever it begins and whatever is carried to it, a later point
-- fits once the solids before one have no room
abbrev pub NoPageFitsLater : List FontFace → Flow → Type 0
NoPageFitsLater faces flow = (frame : Frame) (from : CutFrom) (carried : List Carried) → IsGoodFrame frame →
    Holds flow.main from.at → AreCarried flow from.at carried → NoLaterFits faces flow frame from carried

-- so it is in each flow
abbrev pub NoLaterPointFits : Type 0
NoLaterPointFits = (faces : List FontFace) (flow : Flow) → CanBePaged faces flow → NoPageFitsLater faces flow
