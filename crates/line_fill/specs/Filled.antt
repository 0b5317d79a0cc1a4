-- A line that is filled, with the lines that follow from its plan.
use Rattle.std.specs.Prelude.{ℕ, ℤ, List}
use Rattle.std.specs.List.{All}
use Rattle.metrics.specs.Face.{FontFace}
use Rattle.boxes.specs.declared.leaf.Leaf.{Leaf}
use Rattle.line_fill.specs.LineEnd.{IsLine}
use Rattle.line_fill.specs.declared.plan.Filled.{Filled}

-- the line that begins at a place, and lines of the same leaf and measure from other places on
pub record AreFilled (faces : List FontFace) (leaf : Leaf) (from : ℕ) (measure : ℤ) (filled : Filled) : Type 0 where
  pub line : IsLine faces leaf from measure filled.line
  pub ahead : All (λ l. IsLine faces leaf l.from measure l) filled.ahead.items
