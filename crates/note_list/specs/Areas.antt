-- The note area of a page, as it was made room for and as it is painted.
use Rattle.std.specs.Prelude.{◌≡◌, ℕ, ◌<◌, ◌≤◌, List, length, take}
use Rattle.bk_num.specs.Limits.{separator}
use Rattle.notes.specs.Notes.{area_of, placed_height}
use Rattle.note_list.specs.Lists.{note_rows, placed_notes}
use Rattle.note_list.specs.declared.solid.NotedSolid.{NotedSolid}

-- the first solids of a list are placed in a note area that is as high as the room that they take
abbrev pub PlacesTakeTheirRoom : Type 0
PlacesTakeTheirRoom = (list : List NotedSolid) (n : ℕ) → 0 < n → n ≤ length list →
    placed_height (placed_notes separator (take n list)) ≡ area_of (note_rows list) n
