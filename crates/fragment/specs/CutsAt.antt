-- The cut of a page by the solids that are read, whatever the notes are that were told of it.
use Rattle.std.specs.Prelude.{◌≡◌, ℕ, ℤ, ◌≤◌, ◌≤ℤ◌, ◌-ℤ◌, ◌==◌, List, ◌++◌, Bool, length, take, slice_get}
use Rattle.std.specs.List.{All}
use Rattle.metrics.specs.Face.{FontFace}
use Rattle.boxes.specs.declared.flow.Flow.{Flow}
use Rattle.cursor.specs.Remainder.{SolidView}
use Rattle.cuts.specs.Cuts.{NoteLists}
use Rattle.cuts.specs.Rows.{rows_reach}
use Rattle.notes.specs.Notes.{IsCarryCount, area_of, must_of}
use Rattle.note_list.specs.Calls.{called_before}
use Rattle.note_list.specs.Lists.{AreNoted, called_parts, carried_parts, note_rows}
use Rattle.note_list.specs.Places.{IsPlacing}
use Rattle.note_list.specs.Reads.{IsReadFor}
use Rattle.note_list.specs.declared.carried.Carried.{Carried}
use Rattle.note_list.specs.declared.list.NoteList.{NoteList}
use Rattle.note_list.specs.declared.solid.NotedSolid.{NotedSolid}
use Rattle.page_list.specs.Cuts.{IsBestCut, first_gap, forced_after, place_after, placed_from, rows_of}
use Rattle.page_list.specs.declared.cut.Cut.{Cut}

-- what a page places of a list that was read, of which the notes up to a number are called before its cut: the greatest
-- number of solids that the room takes
abbrev pub PlacesNotes : Flow → List Carried → ℕ → ℕ → ℤ → ℤ → NoteList → Cut → Type 0
PlacesNotes flow carried from to height room l cut =
    (faces : List FontFace) (width : ℤ) (own list later : List NotedSolid) →
    AreNoted faces flow.notes width (carried_parts carried) own →
    AreNoted faces flow.notes width (carried_parts carried ++ called_parts from to) list →
    All (λ s. to ≤ s.note) later → IsReadFor room (list ++ later) l →
    IsCarryCount (note_rows own) (length own) height l.own →
    (cut.level ≤ 2 → area_of (note_rows list) (must_of (note_rows list) l.own) ≤ℤ room) →
    IsPlacing list cut.level l.own (length own) room (record { notes = cut.notes; left = cut.carried })

-- the cut after some of the solids that are read: the best one with each list of notes of which enough is told
pub record CutsAt (flow : Flow) (kept : Bool) (height : ℤ) (carried : List Carried) (from : ℕ)
    (told : NoteLists → Type 0) (l : NoteList)
    (solids : List SolidView) (cut : Cut) : Type 0 where
  pub count : ℕ
  pub within : count ≤ length solids
  pub best : (list : NoteLists) → told list →
      IsBestCut kept (rows_of flow.main solids) height list l.own cut.level count
  pub to_is : cut.to ≡ place_after flow.main (slice_get solids count)
  pub ended_is : cut.ended ≡ (count == length solids)
  pub forced_is : cut.forced ≡ forced_after (slice_get solids count)
  pub solids_is : cut.solids ≡ placed_from (first_gap kept solids) (take count solids)
  pub places : PlacesNotes flow carried from (called_before flow.main flow.notes cut.to) height
      (height -ℤ rows_reach kept (rows_of flow.main solids) count) l cut
