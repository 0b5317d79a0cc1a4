-- What is known of what is left of a paragraph, while its stops are found.
use Rattle.std.specs.Prelude.{◌≡◌, ℕ, ◌+◌, ◌-◌, ◌*◌, ◌^◌, ◌<◌, ◌≤◌, ℤ, pos, ◌≤ℤ◌, List, [], ◌∷◌, ◌++◌, slice_index, drop, length, take}
use Rattle.metrics.specs.Face.{FontFace}
use Rattle.metrics.specs.Widths.{sum_from}
use Rattle.boxes.specs.declared.leaf.Leaf.{Leaf}
use Rattle.line_fill.specs.Breaks.{shown_len, stop_of}
use Rattle.line_fill.specs.Fill.{AreWidths}
use Rattle.line_fill.specs.Stops.{offsets_of}
use Rattle.line_fill.specs.Widths.{unit_at}
use Rattle.line_fill.specs.declared.line_width.LineWidth.{LineWidth}
use Rattle.line_fill.specs.declared.paragraph.Paragraph.{Paragraph}

-- what is left of a paragraph of a leaf: it ends after the next newline or where the text ends, and these places of the
-- leaf lie in it
pub record IsParagraph (leaf : Leaf) (p : Paragraph) : Type 0 where
  pub inside : p.from < length leaf.text
  pub end_is : p.end ≡ stop_of leaf.text p.from
  pub order : p.first ≤ p.last
  pub within : p.last ≤ length leaf.places
  pub before : (k : ℕ) → k < p.last → slice_index leaf.places k < p.end
  pub after : (k : ℕ) → p.first ≤ k → k < p.last → p.from < slice_index leaf.places k
  pub offsets : offsets_of leaf p.from ≡ take (p.last - p.first) (drop p.first leaf.places) ++ p.end ∷ []

-- the widths of the part of a leaf's text from one place to another, of which only the last byte may be a newline
pub record IsPassed (faces : List FontFace) (leaf : Leaf) (from at : ℕ) (r : LineWidth) : Type 0 where
  pub low : from ≤ at
  pub within : at ≤ stop_of leaf.text from
  pub total : r.total ≡ pos (sum_from (unit_at faces leaf from) from (at - from))
  pub shown : r.shown ≡ pos (sum_from (unit_at faces leaf from) from (shown_len leaf.text from (at - from)))
  pub widths : at < stop_of leaf.text from → AreWidths (unit_at faces leaf from) leaf.text from at r
  pub small : r.total ≤ℤ pos (2 ^ 27 * at)
