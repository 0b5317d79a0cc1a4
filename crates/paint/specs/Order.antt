-- In which order the solids of a page stand: in that of its flow.
use Rattle.std.specs.Prelude.{◌≡◌, ◌<◌, ◌≤◌, ℕ, List, [], ◌∷◌, Option, None, Some, length, slice_get}
use Rattle.std.specs.List.{All}
use Rattle.boxes.specs.Tree.{Tree}
use Rattle.boxes.specs.declared.flow.Flow.{Flow}
use Rattle.boxes.specs.declared.flow.Note.{Note}
use Rattle.boxes.specs.declared.leaf.Leaf.{Leaf as LeafData}
use Rattle.boxes.specs.declared.page.Page.{Page}
use Rattle.boxes.specs.declared.page.Placed.{Placed}
use Rattle.boxes.specs.declared.place.Event.TheVariants.{Leaf}
use Rattle.line_fill.specs.LineEnd.{IsLineBetween}
use Rattle.notes.specs.Near.{IsNearSolid}
use Rattle.paint.specs.Bounds.{IsBoundedPage}
use Rattle.paint.specs.Items.{line_of}

-- a solid that stands at a leaf of a tree is a line of it between two places
abbrev pub IsLineIn : Tree → Placed → Type 0
IsLineIn t s = (number : ℕ) (leaf : LeafData) → slice_get t.events s.at.event ≡ Some (Leaf number) →
    slice_get t.leaves number ≡ Some leaf → IsLineBetween leaf s.at.offset (line_of leaf s).to

-- a solid stands at an event of a tree, and is a line of the leaf there, if the event is one
pub record StandsIn (t : Tree) (s : Placed) : Type 0 where
  pub event : s.at.event < length t.events
  pub line : IsLineIn t s

-- solids that stand in a tree, in the order of their events, from one on
abbrev pub AreInOrder : Tree → ℕ → List Placed → Type 0
AreInOrder t from [] = Unit {0}
AreInOrder t from (s ∷ solids) =
    (from ≤ s.at.event) × StandsIn t s × AreInOrder t s.at.event solids

-- a solid stands in a note's body
abbrev pub StandsInNote : Option Note → Placed → Type 0
StandsInNote None s = ⊥
StandsInNote (Some note) s = StandsIn note.body s

-- solids of notes, note after note and in the order of their events, from an event of a note on
abbrev pub AreNotesInOrder : List Note → ℕ → ℕ → List (ℕ × Placed) → Type 0
AreNotesInOrder notes note from [] = Unit {0}
AreNotesInOrder notes note from ((n, s) ∷ placed) = (note ≤ n) × (note ≡ n → from ≤ s.at.event) ×
    StandsInNote (slice_get notes n) s × AreNotesInOrder notes n s.at.event placed

-- the solids of the note of a number, if there is one, are in order
abbrev pub HasOrder : List Note → ℕ → List Placed → Type 0
HasOrder notes n solids = (note : Note) → slice_get notes n ≡ Some note → AreInOrder note.body 0 solids

-- solids that can be painted as those of the note of a number: they are near, and in order
pub record AreOfNote (notes : List Note) (n : ℕ) (solids : List Placed) : Type 0 where
  pub near : All IsNearSolid solids
  pub order : HasOrder notes n solids

-- a page whose solids stand in the order of a flow, within bounds
pub record IsPageOf (flow : Flow) (page : Page) : Type 0 where
  pub bounded : IsBoundedPage page
  pub solids : AreInOrder flow.main 0 page.solids
  pub notes : AreNotesInOrder flow.notes 0 0 page.notes
