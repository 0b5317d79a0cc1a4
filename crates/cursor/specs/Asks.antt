-- What a walk that goes by kept lines asks of them.
use Rattle.std.specs.Prelude.{◌≡◌, ◌≢◌, ℕ, ◌+◌, ℤ, List, length, Option, Some, None, slice_get}
use Rattle.std.specs.List.{All, AllPairs}
use Rattle.boxes.specs.Tree.{Tree}
use Rattle.boxes.specs.declared.leaf.Leaf.{Leaf as LeafData}
use Rattle.boxes.specs.declared.page.SolidKind.{SolidKind}
use Rattle.boxes.specs.declared.page.SolidKind.TheVariants.{Line, OpenEdge, CloseEdge}
use Rattle.boxes.specs.declared.place.Event.TheVariants.{Leaf}
use Rattle.boxes.specs.declared.place.Position.{Position}
use Rattle.line_fill.specs.Kept.{Asked, HasAsked, Holds, HoldsNow, asked_of}
use Rattle.line_fill.specs.declared.kept.KeptLeaf.{KeptLeaf}
use Rattle.cursor.specs.Remainder.{SolidView, leaf_measure}

-- the triple of a solid that is a line of a leaf
abbrev pub asked_at : Tree → ℤ → SolidView → LeafData → Asked
asked_at t width s leaf = asked_of leaf s.placed_at.offset (leaf_measure t width s.placed_at.event)

-- a line is asked for, with a step where its triple isn't held
pub record AsksForLine (t : Tree) (width : ℤ) (s : SolidView) (old new : List KeptLeaf)
    (steps steps' : ℕ) : Type 0 where
  pub number : ℕ
  pub leaf : LeafData
  pub names : slice_get t.events s.placed_at.event ≡ Some (Leaf number)
  pub has : slice_get t.leaves number ≡ Some leaf
  pub asked : HasAsked (asked_at t width s leaf) old new
  pub held : Holds old (asked_at t width s leaf) → steps' ≡ steps
  pub fresh : (Holds old (asked_at t width s leaf) → ⊥) → steps' ≡ steps + 1

-- what a solid asks for, by its kind: a line for its triple, and an edge for nothing
abbrev pub AsksBy : SolidKind → Tree → ℤ → SolidView → List KeptLeaf → List KeptLeaf → ℕ → ℕ → Type 0
AsksBy (OpenEdge b) t width s old new steps steps' = (new ≡ old) × (steps' ≡ steps)
AsksBy (CloseEdge b) t width s old new steps steps' = (new ≡ old) × (steps' ≡ steps)
AsksBy Line t width s old new steps steps' = AsksForLine t width s old new steps steps'

-- what the next solid asks for; at the tree's end nothing is asked for
abbrev pub AsksNext : Tree → ℤ → Option SolidView → List KeptLeaf → List KeptLeaf → ℕ → ℕ → Type 0
AsksNext t width None old new steps steps' = (new ≡ old) × (steps' ≡ steps)
AsksNext t width (Some s) old new steps steps' = AsksBy s.kind t width s old new steps steps'

-- where a leaf is at a place, its line from there on is held as asked for in this pass, in a frame of a width
abbrev pub IsHeldNow : Tree → ℤ → List KeptLeaf → Position → Type 0
IsHeldNow t width kept at = (number : ℕ) (leaf : LeafData) → slice_get t.events at.event ≡ Some (Leaf number) →
    slice_get t.leaves number ≡ Some leaf → HoldsNow kept (asked_of leaf at.offset (leaf_measure t width at.event))

-- each triple that was held is held still, and as asked for in this pass where it was so
pub record KeepsHeld (old new : List KeptLeaf) : Type 0 where
  pub held : (a : Asked) → Holds old a → Holds new a
  pub now : (a : Asked) → HoldsNow old a → HoldsNow new a

-- each step is taken for a triple of its own, which wasn't held and now is, as asked for in this pass
pub record TakesSteps (old new : List KeptLeaf) (steps steps' : ℕ) : Type 0 where
  pub asks : List Asked
  pub count : steps' ≡ steps + length asks
  pub fresh : All (λ a. Holds old a → ⊥) asks
  pub held : All (HoldsNow new) asks
  pub apart : AllPairs (λ a b. a ≢ b) asks
