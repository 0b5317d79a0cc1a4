-- The list of a page's notes: the solids of the carried notes, then those of the notes that are called on the page
-- (css-gcpm-3, 2: footnotes).
use Rattle.std.specs.Prelude.{◌≡◌, ℕ, ◌-◌, ◌==◌, ℤ, pos, ◌+ℤ◌, List, [], ◌∷◌, ◌++◌, Option, None, Some, Bool, true, false, not, ◌&&◌, is_some, map, slice_get, if◌then◌else◌}
use Rattle.std.specs.List.{range_with_len}
use Rattle.metrics.specs.Face.{FontFace}
use Rattle.boxes.specs.Tree.{Tree}
use Rattle.boxes.specs.declared.flow.Note.{Note}
use Rattle.boxes.specs.declared.page.Placed.{Placed}
use Rattle.boxes.specs.declared.place.Position.{Position}
use Rattle.cursor.specs.Remainder.{SolidView, IsRemainder}
use Rattle.notes.specs.declared.solid.NoteSolid.{NoteSolid}
use Rattle.seams.specs.Runs.{solid_before}
use Rattle.note_list.specs.Calls.{start_place}
use Rattle.note_list.specs.declared.carried.Carried.{Carried}
use Rattle.note_list.specs.declared.solid.NotedSolid.{NotedSolid}

-- a note of a page's list, from a place of its body on, and whether it is called on the page
pub record NotePart : Type 0 where
  pub note : ℕ
  pub at : Position
  pub called : Bool

-- whether no solid of a body stands before one at a place
abbrev pub is_first : Tree → Position → Bool
is_first t at = at.offset == 0 && not (is_some (solid_before t at.event))

-- a solid in the list. The first solid of a note has no gap above it, and each other one its whole gap, also at the top
-- of a page's area
abbrev pub noted : Tree → NotePart → SolidView → NotedSolid
noted body p s = record {
  note = p.note;
  at = s.placed_at;
  end = s.end;
  kind = s.kind;
  row = record {
    gap = if is_first body s.placed_at then pos 0 else s.seam.whole_gap;
    height = s.height;
    begins = p.called && is_first body s.placed_at;
  };
}

-- the list of some notes in a frame of a width: the solids that are left of each, note after note
abbrev pub AreNoted : List FontFace → List Note → ℤ → List NotePart → List NotedSolid → Type 0
AreNoted faces notes width [] list = list ≡ []
AreNoted faces notes width (p ∷ parts) list = (note : Note) × (slice_get notes p.note ≡ Some note) ×
    (solids : List SolidView) ×
    IsRemainder faces note.body width p.at solids × (rest : List NotedSolid) × AreNoted faces notes width parts rest ×
    (list ≡ map (noted note.body p) solids ++ rest)

-- what is carried, in order
abbrev pub carried_parts : List Carried → List NotePart
carried_parts carried = map (λ c. record { note = c.note; at = c.at; called = false }) carried

-- the notes from a number up to another, which are called on a page
abbrev pub called_parts : ℕ → ℕ → List NotePart
called_parts from to = map (λ n. record { note = n; at = start_place; called = true }) (range_with_len from (to - from))

-- the gaps and heights of a list
abbrev pub note_rows : List NotedSolid → List NoteSolid
note_rows list = map (λ s. s.row) list

-- the solids of a list on their page, with their tops from the top of the note area, where a bottom stands above the
-- first
abbrev pub placed_notes : ℤ → List NotedSolid → List (ℕ × Placed)
placed_notes bottom [] = []
placed_notes bottom (s ∷ list) =
    (s.note, record { at = s.at; end = s.end; top = bottom +ℤ s.row.gap; height = s.row.height; kind = s.kind }) ∷
    placed_notes ((bottom +ℤ s.row.gap) +ℤ s.row.height) list

-- whether the last solid is one of a note
abbrev pub is_of : Option ℕ → ℕ → Bool
is_of None note = false
is_of (Some last) note = last == note

-- what is carried of the solids that are left of a list, after a solid of a note: each other note from its first solid
-- that is left on
abbrev pub left_after : Option ℕ → List NotedSolid → List Carried
left_after last [] = []
left_after last (s ∷ list) =
    if is_of last s.note then left_after (Some s.note) list else record {
      note = s.note;
      at =
          s.at;
    } ∷ left_after (Some s.note) list

-- what is carried of the solids of a list that a page doesn't place: each note goes on at its first solid that is left
abbrev pub left_of : List NotedSolid → List Carried
left_of list = left_after None list
