-- What is asked of a leaf whose lines are filled.
use Rattle.std.specs.Prelude.{ℕ, ◌<◌, ◌≤◌, ◌^◌, ℤ, List, length, unsigned_abs}
use Rattle.std.specs.List.{All}
use Rattle.metrics.specs.Face.{FontFace}
use Rattle.boxes.specs.Contents.{IsGoodLeaf}
use Rattle.boxes.specs.declared.leaf.Leaf.{Leaf}

-- lines of a leaf can be filled: its text is short enough that places in it are `u32`, and the faces of its spans are
-- there
pub record CanFill (faces : List FontFace) (leaf : Leaf) : Type 0 where
  pub good : IsGoodLeaf leaf
  pub few : length leaf.text < 2 ^ 32
  pub faced : All (λ s. s.face.0 < length faces) leaf.spans

-- a line of a leaf can be asked for: it begins in the text, at a measure that is not too wide
pub record CanAsk (faces : List FontFace) (leaf : Leaf) (from : ℕ) (measure : ℤ) : Type 0 where
  pub good : IsGoodLeaf leaf
  pub faced : All (λ s. s.face.0 < length faces) leaf.spans
  pub inside : from < length leaf.text
  pub bounded : unsigned_abs measure ≤ 2 ^ 40
