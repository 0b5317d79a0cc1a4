-- How much of a list of notes is read: no more than to the first solid with which its area is above a height.
use Rattle.std.specs.Prelude.{◌≡◌, ℕ, ℤ, ◌<◌, ◌≤ℤ◌, List, false, length}
use Rattle.std.specs.List.{sum_by}
use Rattle.cursor.specs.Remainder.{steps_by}
use Rattle.notes.specs.Notes.{area_of}
use Rattle.note_list.specs.Lists.{note_rows}
use Rattle.note_list.specs.declared.list.NoteList.{NoteList}
use Rattle.note_list.specs.declared.solid.NotedSolid.{NotedSolid}

-- how many of the solids of a list are lines
abbrev pub lines_in : List NotedSolid → ℕ
lines_in list = sum_by (λ s. steps_by s.kind) list

-- with fewer solids than are read the area isn't above the height, nor with all of them where the list has room
pub record IsShortList (height : ℤ) (l : NoteList) : Type 0 where
  pub before : (k : ℕ) → k < length l.solids.items → area_of (note_rows l.solids.items) k ≤ℤ height
  pub all : l.over ≡ false → area_of (note_rows l.solids.items) (length l.solids.items) ≤ℤ height
