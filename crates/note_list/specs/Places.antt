-- What a page places of its list of notes.
use Rattle.std.specs.Prelude.{◌≡◌, ℕ, ℤ, pos, ◌^◌, ◌==◌, ◌<◌, ◌≤◌, ◌≤ℤ◌, List, ◌++◌, length, nat_lt, take, drop, if◌then◌else◌}
use Rattle.std.specs.List.{All}
use Rattle.bk_num.specs.Limits.{most_entries, separator}
use Rattle.boxes.specs.declared.flow.Flow.{Flow}
use Rattle.boxes.specs.declared.page.Placed.{Placed}
use Rattle.notes.specs.Notes.{IsPlaced, must_of}
use Rattle.note_list.specs.Conditions.{IsAtSolid, IsHeld, NotesAscend}
use Rattle.note_list.specs.Lists.{left_of, placed_notes, note_rows}
use Rattle.note_list.specs.Reads.{EndInNotes, IsReady}
use Rattle.note_list.specs.declared.carried.Carried.{Carried}
use Rattle.note_list.specs.declared.list.NoteList.{NoteList}
use Rattle.note_list.specs.declared.list.NoteRoom.{NoteRoom}
use Rattle.note_list.specs.declared.list.PlacedList.{PlacedList}
use Rattle.note_list.specs.declared.solid.NotedSolid.{NotedSolid}

-- how many solids of its list a page places at least: those that have to stand on it; at level 3 the carried ones that
-- have to; at level 4 one, where any is carried
abbrev pub least_of : ℕ → ℕ → ℕ → ℕ → ℕ
least_of level must c carried =
    if nat_lt level 3 then must else (if level == 3 then c else (if carried == 0 then 0 else 1))

-- a page places the greatest number of the solids of a list that its room takes, from the least on, and carries the
-- others
pub record IsPlacing (list : List NotedSolid) (level c carried : ℕ) (room : ℤ) (p : PlacedList) : Type 0 where
  pub number : ℕ
  pub places : IsPlaced (note_rows list) (least_of level (must_of (note_rows list) c) c carried) room number
  pub notes_is : p.notes ≡ placed_notes separator (take number list)
  pub left_is : p.left ≡ left_of (drop number list)

-- what a page places of notes are the first solids of its list
pub record IsFront (list : List NotedSolid) (placed : List (ℕ × Placed)) : Type 0 where
  pub front : List NotedSolid
  pub more : List NotedSolid
  pub is : list ≡ front ++ more
  pub placed_is : placed ≡ placed_notes separator front

-- what is asked where a page places its notes: its list was read of notes of the flow; each part that is carried to it
-- is of a note below the first that is called on it, in order, and goes on at a solid; and its room is at most as high
-- as its frame
pub record CanPlace (flow : Flow) (parts : List Carried) (from : ℕ) (l : NoteList) (r : NoteRoom) : Type 0 where
  pub ready : IsReady l
  pub ends : EndInNotes flow.notes l
  pub carried : All (IsHeld flow.notes) parts
  pub stands : All (IsAtSolid flow.notes) parts
  pub order : NotesAscend parts
  pub before : All (λ c. c.note < from) parts
  pub called : from ≤ r.to
  pub within : r.to ≤ length flow.notes
  pub few : length flow.notes ≤ most_entries
  pub low : pos 0 ≤ℤ r.height
  pub high : r.height ≤ℤ pos (2 ^ 40)
  pub room : r.room ≤ℤ r.height
