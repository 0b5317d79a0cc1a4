-- The lines that are kept, by what they were asked of.
use Rattle.std.specs.Prelude.{◌≡◌, ◌≢◌, ℕ, ℤ, List, Some, true, slice_get, Contains, ◌⊎◌, ◌↔◌, [], ◌∷◌}
use Rattle.metrics.specs.Face.{FontFace}
use Rattle.boxes.specs.declared.leaf.Leaf.{Leaf}
use Rattle.line_fill.specs.LineEnd.{IsLine}
use Rattle.line_fill.specs.declared.kept.KeptLeaf.{KeptLeaf}
use Rattle.line_fill.specs.declared.lines.KeptLine.{KeptLine}
use Rattle.line_fill.specs.KeptLines.{is_asked, is_now}
use Rattle.line_fill.specs.Keys.{LeafKey, key_in, key_of}

-- a line's triple: its leaf as far as lines go, where it begins, and its measure
pub record Asked : Type 0 where
  pub leaf : LeafKey
  pub from : ℕ
  pub measure : ℤ

-- the triple of a leaf's line
abbrev pub asked_of : Leaf → ℕ → ℤ → Asked
asked_of leaf from measure = record { leaf = key_of leaf; from = from; measure = measure }

-- the lines of a leaf at a measure stand at a place
pub record IsLeafAt (kept : List KeptLeaf) (at : ℕ) (key : LeafKey) (measure : ℤ) : Type 0 where
  pub leaf : KeptLeaf
  pub has : slice_get kept at ≡ Some leaf
  pub key_is : key_in leaf ≡ key
  pub measure_is : leaf.measure ≡ measure

-- a line stands for a triple
pub record Stands (kept : List KeptLeaf) (a : Asked) (line : KeptLine) : Type 0 where
  pub at : ℕ
  pub leaf : KeptLeaf
  pub has : slice_get kept at ≡ Some leaf
  pub key_is : key_in leaf ≡ a.leaf
  pub measure_is : leaf.measure ≡ a.measure
  pub place : ℕ
  pub there : slice_get leaf.lines.items place ≡ Some line
  pub from_is : line.line.from ≡ a.from

-- a line is kept for what this pass or the one before asked for
pub record HasLine (kept : List KeptLeaf) (a : Asked) (line : KeptLine) : Type 0 where
  pub stands : Stands kept a line
  pub asked : is_asked line ≡ true

-- this pass or the one before asked for a triple
abbrev pub Holds : List KeptLeaf → Asked → Type 0
Holds kept a = (line : KeptLine) × HasLine kept a line

-- this pass asked for it
abbrev pub HoldsNow : List KeptLeaf → Asked → Type 0
HoldsNow kept a = (line : KeptLine) × HasLine kept a line × (is_now line ≡ true)

-- each line that stands is the line of its triple, whatever leaf it is asked of, also where no pass asked for it yet
abbrev pub AreKept : List FontFace → List KeptLeaf → Type 0
AreKept faces kept = (a : Asked) (line : KeptLine) (leaf : Leaf) → Stands kept a line → key_of leaf ≡ a.leaf →
    IsLine faces leaf a.from a.measure line.line

-- a triple is asked for in this pass: it is kept, with what was kept before
pub record HasAsked (a : Asked) (old new : List KeptLeaf) : Type 0 where
  pub asked : HoldsNow new a
  pub keeps : (b : Asked) → Holds old b → Holds new b
  pub keeps_now : (b : Asked) → HoldsNow old b → HoldsNow new b
  pub only : (b : Asked) → Holds new b → Holds old b ⊎ (b ≡ a)
  pub only_now : (b : Asked) → HoldsNow new b → HoldsNow old b ⊎ (b ≡ a)

-- the same lines are kept, and no others stand
pub record HoldsSame (old new : List KeptLeaf) : Type 0 where
  pub keeps : (b : Asked) (line : KeptLine) → HasLine old b line → HasLine new b line
  pub only : (b : Asked) (line : KeptLine) → Stands new b line → Stands old b line

-- leaves stay at their places
abbrev pub KeepsPlaces : List KeptLeaf → List KeptLeaf → Type 0
KeepsPlaces old new = (at : ℕ) (key : LeafKey) (measure : ℤ) → IsLeafAt old at key measure →
    IsLeafAt new at key measure

-- leaves without lines may be added
pub record Grows (old new : List KeptLeaf) : Type 0 where
  pub places : KeepsPlaces old new
  pub same : HoldsSame old new

-- this pass becomes the pass before
pub record HasTurned (old new : List KeptLeaf) : Type 0 where
  pub keeps : (b : Asked) → HoldsNow old b → Holds new b
  pub only : (b : Asked) → Holds new b → HoldsNow old b
  pub none : (b : Asked) → HoldsNow new b → ⊥

-- lines are asked for one after another
abbrev pub AreAsked : List Asked → List KeptLeaf → List KeptLeaf → Type 0
AreAsked [] old new = HoldsSame old new
AreAsked (a ∷ asks) old new = (mid : List KeptLeaf) × HasAsked a old mid × AreAsked asks mid new

-- what is held after a pass is just what the pass asked for, whatever was held before it
abbrev pub KeepWhatWasAsked : Type 0
KeepWhatWasAsked = (asks : List Asked) (old now new : List KeptLeaf) → ((b : Asked) → HoldsNow old b → ⊥) →
    AreAsked asks old now → HasTurned now new → (b : Asked) → Holds new b ↔ Contains asks b

-- a line that is asked of one leaf isn't held for a leaf of another text, wherever it begins and at any measure
abbrev pub LeavesAreApart : Type 0
LeavesAreApart = (leaf other : Leaf) (from at : ℕ) (measure wide : ℤ) (old new : List KeptLeaf) →
    leaf.text ≢ other.text → HasAsked (asked_of leaf from measure) old new →
    (Holds old (asked_of other at wide) → ⊥) → Holds new (asked_of other at wide) → ⊥
