-- Break points between the lines of a remainder (css-break-3, 4.1).
use Rattle.std.specs.Prelude.{◌≡◌, ℕ, ℤ, ◌<◌, ◌≤◌, ◌⊎◌, List, Some, slice_get}
use Rattle.metrics.specs.Face.{FontFace}
use Rattle.boxes.specs.Tree.{Tree, IsTree, Holds}
use Rattle.boxes.specs.declared.page.SolidKind.TheVariants.{Line}
use Rattle.boxes.specs.declared.place.Position.{Position}
use Rattle.seams.specs.declared.seam_info.Class.TheVariants.{A, B}
use Rattle.cursor.specs.Remainder.{IsRemainder, SolidView}

-- the seam before a solid is a break point: it stands between blocks or between the lines of one
abbrev pub IsBreak : SolidView → Type 0
IsBreak s = (s.seam.class ≡ A) ⊎ (s.seam.class ≡ B)

-- between two lines of a remainder stands a break point
abbrev pub HavePartedLines : Type 0
HavePartedLines = (faces : List FontFace) (t : Tree) (width : ℤ) (from : Position) (xs : List SolidView) → IsTree t →
    Holds t from → IsRemainder faces t width from xs → (i k : ℕ) (a b : SolidView) → i < k →
    slice_get xs i ≡ Some a → slice_get xs k ≡ Some b → a.kind ≡ Line → b.kind ≡ Line →
    (at : ℕ) × (i < at) × (at ≤ k) × (s : SolidView) × (slice_get xs at ≡ Some s) × IsBreak s
