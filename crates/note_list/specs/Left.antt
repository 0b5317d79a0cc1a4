-- What is left of a page's notes, by the places at which they go on.
use Rattle.std.specs.Prelude.{ℕ, suc, ◌-◌, ◌==◌, nat_le, List, [], ◌∷◌, ◌++◌, Option, None, Some, map, slice_get, if◌then◌else◌}
use Rattle.std.specs.List.{flat_map, range_with_len}
use Rattle.boxes.specs.declared.flow.Note.{Note}
use Rattle.seams.specs.Runs.{solid_after}
use Rattle.note_list.specs.Calls.{start_place}
use Rattle.note_list.specs.declared.carried.Carried.{Carried}
use Rattle.note_list.specs.declared.solid.NotedSolid.{NotedSolid}

-- where a note goes on at or after a place of its body, at the first solid there
abbrev pub left_at : Carried → Option ℕ → List Carried
left_at c None = []
left_at c (Some event) =
    record {
      note = c.note;
      at =
          record { event = event; offset = if event == c.at.event then c.at.offset else 0 };
    } ∷ []

-- the same, where the note is there
abbrev pub left_in : Carried → Option Note → List Carried
left_in c None = []
left_in c (Some note) = left_at c (solid_after note.body c.at.event)

-- what is left of a note from a place of its body on: nothing where no solid is
abbrev pub left_part : List Note → Carried → List Carried
left_part notes c = left_in c (slice_get notes c.note)

-- and of the notes from a number on
abbrev pub left_from : List Note → ℕ → Carried → List Carried
left_from notes next c = if nat_le next c.note then left_part notes c else []

-- the number after that of a note, of which a solid is the last that is placed
abbrev pub next_of : Option NotedSolid → ℕ
next_of None = 0
next_of (Some s) = suc s.note

-- what is left of that note
abbrev pub left_of_last : List Note → Option NotedSolid → List Carried
left_of_last notes None = []
left_of_last notes (Some s) = left_part notes (record { note = s.note; at = s.end })

-- the notes from a number up to another, each from its start
abbrev pub whole_notes : ℕ → ℕ → List Carried
whole_notes from to = map (λ n. record { note = n; at = start_place }) (range_with_len from (to - from))

-- what is left after the last solid that is placed, of the carried notes and of those called from a number up to
-- another
abbrev pub left_after_last : List Note → List Carried → ℕ → ℕ → Option NotedSolid → List Carried
left_after_last notes carried from to last =
    left_of_last notes last ++ flat_map (left_from notes (next_of last)) (carried ++ whole_notes from to)
