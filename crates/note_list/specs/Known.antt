-- Lines that are known before they are read: each stands for a triple that is held, so it takes no step. How many of
-- the others there are bounds the steps of a reader.
use Rattle.std.specs.Prelude.{◌≡◌, ◌+◌, ◌≤◌, ℕ, ℤ, List, Bool, true, false, slice_get, if◌then◌else◌}
use Rattle.std.specs.List.{filter, sum_by}
use Rattle.std.specs.Option.{option_map_or}
use Rattle.boxes.specs.Tree.{Tree}
use Rattle.boxes.specs.declared.flow.Note.{Note}
use Rattle.boxes.specs.declared.leaf.Leaf.{Leaf as LeafData}
use Rattle.boxes.specs.declared.page.SolidKind.{SolidKind}
use Rattle.boxes.specs.declared.page.SolidKind.TheVariants.{Line, OpenEdge, CloseEdge}
use Rattle.boxes.specs.declared.place.Event.{Event}
use Rattle.boxes.specs.declared.place.Event.TheVariants.{Opens, Closes, Leaf}
use Rattle.boxes.specs.declared.place.Position.{Position}
use Rattle.cursor.specs.Remainder.{SolidView, leaf_measure, steps_by}
use Rattle.line_fill.specs.Kept.{Asked, Holds, asked_of}
use Rattle.line_fill.specs.declared.kept.KeptLeaf.{KeptLeaf}
use Rattle.note_list.specs.declared.solid.NotedSolid.{NotedSolid}

-- some triples, given by a test, are held
abbrev pub AreKnown : (Asked → Bool) → List KeptLeaf → Type 0
AreKnown known kept = (a : Asked) → known a ≡ true → Holds kept a

-- whether a place is in a leaf, and the triple of its line from there on is known, in a frame of a width
abbrev pub is_known_in : (Asked → Bool) → Tree → ℤ → Position → Event → Bool
is_known_in known t width at (Opens b) = false
is_known_in known t width at (Closes b) = false
is_known_in known t width at (Leaf number) =
    option_map_or (λ (leaf : LeafData). known (asked_of leaf at.offset (leaf_measure t width at.event)))
    (slice_get t.leaves number) false

unfoldable pub is_known_at : (Asked → Bool) → Tree → ℤ → Position → Bool
is_known_at known t width at =
    option_map_or (λ (e : Event). is_known_in known t width at e) (slice_get t.events at.event) false

-- whether a solid is a line
abbrev pub is_line_kind : SolidKind → Bool
is_line_kind (OpenEdge b) = false
is_line_kind (CloseEdge b) = false
is_line_kind Line = true

-- the lines among some solids
abbrev pub lines_of : List SolidView → List SolidView
lines_of solids = filter (λ s. is_line_kind s.kind) solids

-- one for a line that isn't known
abbrev pub new_of : (Asked → Bool) → Tree → ℤ → SolidView → ℕ
new_of known t width s = if is_known_at known t width s.placed_at then 0 else steps_by s.kind

-- how many of some solids are lines that aren't known
abbrev pub new_in : (Asked → Bool) → Tree → ℤ → List SolidView → ℕ
new_in known t width solids = sum_by (new_of known t width) solids

-- the lines of a list of notes
abbrev pub noted_lines : List NotedSolid → List NotedSolid
noted_lines list = filter (λ s. is_line_kind s.kind) list

-- whether the triple of a solid of a note is known
abbrev pub is_known_noted : (Asked → Bool) → List Note → ℤ → NotedSolid → Bool
is_known_noted known notes width s =
    option_map_or (λ (note : Note). is_known_at known note.body width s.at) (slice_get notes s.note) false

-- one for a line of a note that isn't known
abbrev pub new_of_noted : (Asked → Bool) → List Note → ℤ → NotedSolid → ℕ
new_of_noted known notes width s = if is_known_noted known notes width s then 0 else steps_by s.kind

-- how many of a list of notes are lines that aren't known
abbrev pub new_noted : (Asked → Bool) → List Note → ℤ → List NotedSolid → ℕ
new_noted known notes width list = sum_by (new_of_noted known notes width) list

-- steps are taken for the lines of a list of notes alone that aren't known, where a list is read on
abbrev pub StepsForNotes : List Note → ℤ → List KeptLeaf → List NotedSolid → List NotedSolid → ℕ → ℕ → Type 0
StepsForNotes notes width kept old new steps steps' = (known : Asked → Bool) → AreKnown known kept →
    steps' + new_noted known notes width old ≤ steps + new_noted known notes width new
