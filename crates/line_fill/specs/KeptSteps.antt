-- What each step on kept lines does.
use Rattle.std.specs.Prelude.{◌≡◌, ◌≢◌, ℕ, ◌+◌, ℤ, ◌<◌, List, [], ◌∷◌, ◌++◌, Option, Some, ◌≤◌, length, map, slice_get, slice_set, nat_eq, if◌then◌else◌}
use Rattle.std.specs.List.{filter, insert}
use Rattle.metrics.specs.Face.{FontFace}
use Rattle.boxes.specs.Lines.{LineView}
use Rattle.boxes.specs.declared.leaf.Leaf.{Leaf}
use Rattle.line_fill.specs.LineEnd.{IsLine}
use Rattle.line_fill.specs.KeptLines.{IsPlace, PutsAhead, before_of, is_asked, is_now}
use Rattle.line_fill.specs.declared.kept.KeptLeaf.{KeptLeaf}
use Rattle.line_fill.specs.declared.lines.KeptLine.{KeptLine}
use Rattle.line_fill.specs.declared.lines.Pass.TheVariants.{Now}
use Rattle.line_fill.specs.Keys.{LeafKey, key_in}

-- a leaf at a measure is added, which becomes the last of its print
pub record IsAdded (old new : List KeptLeaf) (last last' : ℕ → Option ℕ) (key : LeafKey) (print : ℕ)
    (measure : ℤ) : Type 0
  where
    pub leaf : KeptLeaf
    pub leaves_is : new ≡ old ++ leaf ∷ []
    pub key_is : key_in leaf ≡ key
    pub measure_is : leaf.measure ≡ measure
    pub print_is : leaf.print ≡ print
    pub before_is : leaf.before ≡ last print
    pub lines_is : leaf.lines.items ≡ []
    pub lasts_is : (q : ℕ) → last' q ≡ (if nat_eq print q then Some (length old) else last q)

-- all of a leaf but its lines
pub record IsSameLeaf (old new : KeptLeaf) : Type 0 where
  pub key_is : key_in new ≡ key_in old
  pub measure_is : new.measure ≡ old.measure
  pub print_is : new.print ≡ old.print
  pub before_is : new.before ≡ old.before

-- a line as this pass has it
abbrev pub line_now : LineView → KeptLine
line_now line = record { line = line; pass = Now }

-- the step that a line takes which stands: none where a pass asked for it
abbrev pub step_of : KeptLine → ℕ
step_of a = if is_asked a then 0 else 1

-- a line is asked for, which stands, or is filled by one step; then further lines may be put, which no pass asked for
pub data AsksLine (faces : List FontFace) (leaf : Leaf) (from : ℕ) (measure : ℤ) (old : List KeptLine) (line : LineView)
    (new : List KeptLine) (steps steps' : ℕ) : Type 0 where
  found : (place : ℕ) (a : KeptLine) → slice_get old place ≡ Some a → a.line ≡ line → a.line.from ≡ from →
      new ≡ slice_set old place (line_now line) → steps' ≡ steps + step_of a →
      AsksLine faces leaf from measure old line new steps steps'
  fresh : (place : ℕ) → IsPlace old from place →
      ((a : KeptLine) → slice_get old place ≡ Some a → a.line.from ≢ from) → IsLine faces leaf from measure line →
      PutsAhead (λ l. IsLine faces leaf l.from measure l) (insert old place (line_now line)) new →
      steps' ≡ steps + 1 → AsksLine faces leaf from measure old line new steps steps'

-- the lines of this pass, as those of the pass before
abbrev pub turned_lines : List KeptLine → List KeptLine
turned_lines lines = map before_of (filter is_now lines)

-- the lines of a leaf are turned
pub record IsTurned (old new : KeptLeaf) : Type 0 where
  pub same : IsSameLeaf old new
  pub lines_is : new.lines.items ≡ turned_lines old.lines.items

-- the leaves before a place are turned, the others stay
pub record AreTurnedTo (at : ℕ) (old new : List KeptLeaf) : Type 0 where
  pub long : length new ≡ length old
  pub turned : (k : ℕ) (x : KeptLeaf) → k < at → slice_get old k ≡ Some x →
      (y : KeptLeaf) × (slice_get new k ≡ Some y) × IsTurned x y
  pub rest : (k : ℕ) → at ≤ k → slice_get new k ≡ slice_get old k

-- all leaves are turned
abbrev pub AreTurned : List KeptLeaf → List KeptLeaf → Type 0
AreTurned old new = AreTurnedTo (length old) old new
