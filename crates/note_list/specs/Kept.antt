-- Lines that are kept of a flow with its notes.
use Rattle.std.specs.Prelude.{◌≡◌, ℕ, ◌+◌, ℤ, List, Some, slice_get}
use Rattle.std.specs.List.{All}
use Rattle.metrics.specs.Face.{FontFace}
use Rattle.boxes.specs.declared.flow.Flow.{Flow}
use Rattle.boxes.specs.declared.flow.Note.{Note}
use Rattle.boxes.specs.declared.page.Placed.{Placed}
use Rattle.boxes.specs.declared.place.Position.{Position}
use Rattle.cursor.specs.Asks.{IsHeldNow}
use Rattle.cursor.specs.KeptLines.{ArePlaced, KeptLinesView}
use Rattle.line_fill.specs.Kept.{AreKept}
use Rattle.line_fill.specs.declared.kept.KeptLeaf.{KeptLeaf}
use Rattle.note_list.specs.declared.solid.NotedSolid.{NotedSolid}

-- each kept line is one of these faces, and the places that are noted for the trees of a flow are those of their
-- leaves; its main tree has the number 0, and the body of a note the number after its own
pub record AreFlowLines (faces : List FontFace) (flow : Flow) (lines : KeptLinesView) : Type 0 where
  pub kept : AreKept faces lines.kept
  pub main : ArePlaced 0 flow.main lines
  pub notes : (n : ℕ) (note : Note) → slice_get flow.notes n ≡ Some note → ArePlaced (n + 1) note.body lines

-- the line at a place of a note is held as asked for in this pass, in a frame of a width
abbrev pub IsHeldIn : List Note → ℤ → List KeptLeaf → ℕ → Position → Type 0
IsHeldIn notes width kept number at = (note : Note) → slice_get notes number ≡ Some note →
    IsHeldNow note.body width kept at

-- and so are those of the solids of a list
abbrev pub AreHeldNow : List Note → ℤ → List KeptLeaf → List NotedSolid → Type 0
AreHeldNow notes width kept list = All (λ s. IsHeldIn notes width kept s.note s.at) list

-- and those of the solids that a page places of its notes
abbrev pub NotesHeldNow : List Note → ℤ → List KeptLeaf → List (ℕ × Placed) → Type 0
NotesHeldNow notes width kept placed = All (λ n. IsHeldIn notes width kept n.0 n.1.at) placed
