-- Kept lines, with the places at which the leaves of some trees are kept.
use Rattle.std.specs.Prelude.{◌≡◌, ℕ, ℤ, Bool, List, [], Option, Some, ◌&&◌, nat_eq, slice_get}
use Rattle.std.specs.Map.{lookup}
use Rattle.std.specs.Ordering.{int_eq}
use Rattle.boxes.specs.Tree.{Tree}
use Rattle.boxes.specs.declared.leaf.Leaf.{Leaf}
use Rattle.metrics.specs.Face.{FontFace}
use Rattle.line_fill.specs.Kept.{AreKept, Asked, Holds, IsLeafAt}
use Rattle.line_fill.specs.Keys.{key_of}
use Rattle.line_fill.specs.declared.kept.KeptLeaf.{KeptLeaf}

-- the numbers of a tree and of a leaf in it, and a measure
abbrev pub LeafAtMeasure : Type 0
LeafAtMeasure = ℕ × ℕ × ℤ

-- whether two such are equal
abbrev pub leaf_eq : LeafAtMeasure → LeafAtMeasure → Bool
leaf_eq a b = (nat_eq a.0 b.0 && nat_eq a.1 b.1) && int_eq a.2 b.2

-- the place that is noted for one
abbrev pub place_in : List (LeafAtMeasure × ℕ) → LeafAtMeasure → Option ℕ
place_in places of = lookup (leaf_eq of) places

-- kept lines, and the places that are noted
pub record KeptLinesView : Type 0 where
  pub kept : List KeptLeaf
  pub places : List (LeafAtMeasure × ℕ)

-- kept lines with the places that are noted
abbrev pub lines_with : List KeptLeaf → List (LeafAtMeasure × ℕ) → KeptLinesView
lines_with kept places = record { kept = kept; places = places }

-- each place that is noted for a leaf of a tree with a number is that of this leaf
abbrev pub ArePlaced : ℕ → Tree → KeptLinesView → Type 0
ArePlaced number t lines = (l at : ℕ) (measure : ℤ) (leaf : Leaf) →
    place_in lines.places (number, l, measure) ≡ Some at → slice_get t.leaves l ≡ Some leaf →
    IsLeafAt lines.kept at (key_of leaf) measure

-- kept lines of some faces, with places of the leaves of a tree with a number
pub record AreLinesOf (faces : List FontFace) (number : ℕ) (t : Tree) (lines : KeptLinesView) : Type 0 where
  pub kept : AreKept faces lines.kept
  pub placed : ArePlaced number t lines

-- places that are noted stay those of their leaves, for a tree, and for those that have other numbers
abbrev pub StayPlaced : ℕ → Tree → KeptLinesView → KeptLinesView → Type 0
StayPlaced number t old new = (other : ℕ) (tree : Tree) → (other ≡ number → tree ≡ t) →
    ArePlaced other tree old → ArePlaced other tree new

-- where no leaf is kept no line is held, so that each line that is asked for takes its step
abbrev pub NothingIsHeld : Type 0
NothingIsHeld = (a : Asked) → Holds [] a → ⊥
